use Rattle.std.proofs.Common.{refl, sym, ap, ◌∙◌, arith, ℕ, List, [], subst, inl, inr}
use Rattle.ncc_schema.specs.declared.schema.Attr.{Attr}
use Rattle.ncc_schema.specs.declared.schema.Dim.{Dim}
use Rattle.ncc_header.specs.Left.{Given, begins_of, come_of, in_var, from_type}
use Rattle.ncc_header.specs.Grammar.{Grammar, ◌>>=◌, repeat}
use Rattle.ncc_header.specs.Fields.{attr}
use Rattle.ncc_header.specs.AtFront.{AtFront, HasFrontOfVar, var_head}
use Rattle.ncc_header.specs.declared.partial.Named.TheVariants as named
use Rattle.ncc_header.specs.declared.partial.Next.TheVariants as nexts
use Rattle.ncc_header.proofs.WholeItems.{went, after_head, starts_head, if_err, needed}
use Rattle.ncc_header.proofs.rules.whole_var.take_var.Goals as goal

pub returns-clause-some : goal.returns-clause-some
returns-clause-some c =
    let r = c.args.reading.now in
    let p = r.partial.lists.parts in
    let head = c.in-Some.head in
    let less = rw c.in-Some.is at c.in_ok-head.ensures.less in
    let found = rw c.in-Some.is at c.in_ok-head.ensures.at_front in
    let x : List ℕ × List ℕ × ℕ = (head.text.now, head.ids.items, head.attrs) in
    let rest : (List ℕ) → (List ℕ) → (List Attr) → Grammar Given = λ text ids items. repeat (λ before. attr p.version) items head.attrs >>= λ notes. in_var p r.partial.lists.vars (from_type p.version text ids notes) in
    went r _ c.args.rest.now head.after.now _ (ap (λ n. come_of n r.partial) c.requires.next) c.requires.none (omega (arith, less)) (omega (arith, c.requires.within))
    c.next_attr-reading.ensures.fresh c.requires.none refl refl refl
    (var_head p.version p.dims.items) (after_head p r.partial.lists.vars) x
    (starts_head r c.requires.next) (subst (λ (dims : List Dim). AtFront (var_head p.version dims) x c.args.rest.now head.after.now) c.deref.ensures.value found)
    (c.next_attr-reading.ensures.left ∙ ap (λ (items : List Attr). rest c.in_ok-name.name head.ids.items items) c.new.ensures.items ∙ ap (λ (text : List ℕ). rest text head.ids.items []) c.in_ok-name.ensures.same)
    (c.next_attr-reading.ensures.begins ∙ sym (ap (λ n. begins_of n r.partial.lists.vars) c.requires.next))

pub returns-in_err-name-clause-needs : goal.returns-in_err-name-clause-needs
returns-in_err-name-clause-needs c =
    let p = c.args.reading.now.partial.lists.parts in
    let head = c.in-Some.head in
    let found = rw c.in-Some.is at c.in_ok-head.ensures.at_front in
    let x : List ℕ × List ℕ × ℕ = (head.text.now, head.ids.items, head.attrs) in
    if_err c.from_residual-in_err-name.result _ (needed c.args.reading.now (nexts.NameLength named.Var) c.args.rest.now c.requires.next
    (inl (x, head.after.now, subst (λ (dims : List Dim). AtFront (var_head p.version dims) x c.args.rest.now head.after.now) c.deref.ensures.value found)))

pub returns-in_err-head-clause-needs : goal.returns-in_err-head-clause-needs
returns-in_err-head-clause-needs c =
    let p = c.args.reading.now.partial.lists.parts in
    if_err c.from_residual.result _ (needed c.args.reading.now (nexts.NameLength named.Var) c.args.rest.now c.requires.next
    (inr (subst (λ (dims : List Dim). HasFrontOfVar p.version dims c.args.rest.now) c.deref.ensures.value c.in_err-head.ensures.needs)))
