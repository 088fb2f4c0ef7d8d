use Rattle.std.proofs.Common.{refl, subst, sym, ◌∙◌, ap, arith, ℕ, List}
use Rattle.ncc_schema.specs.declared.schema.Dim.{Dim}
use Rattle.ncc_header.specs.Fields.{dim}
use Rattle.ncc_header.specs.Left.{after_dim, begins_of, come_of}
use Rattle.ncc_header.specs.AtFront.{AtFront}
use Rattle.ncc_header.specs.declared.partial.Named.TheVariants as named
use Rattle.ncc_header.specs.declared.partial.Next.TheVariants as nexts
use Rattle.ncc_header.proofs.WholeItems.{went, starts_dim, if_err, needed}
use Rattle.ncc_header.proofs.rules.whole_dim.take_dim.Goals as goal

pub returns-in-Ok-clause-some : goal.returns-in-Ok-clause-some
returns-in-Ok-clause-some c =
    let r = c.args.reading.now in
    let p = r.partial.lists.parts in
    let after = c.in-Some.found.after.now in
    let x : Dim = record { name = c.in-Some.found.name.now; length = c.in-Some.found.length } in
    went r _ c.args.rest.now after _ (ap (λ n. come_of n r.partial) c.requires.next) c.requires.none (omega (arith, c.in-Some.ensures.less)) (omega (arith, c.requires.within))
    c.in-Ok.ensures.fresh c.requires.none refl refl refl
    (dim p.version p.dims.items) (after_dim p r.partial.lists.dims_left) x
    (starts_dim r c.requires.next) (subst (λ (dims : List Dim). AtFront (dim p.version dims) x c.args.rest.now after) c.deref.ensures.value c.in-Some.ensures.at_front)
    (c.in-Ok.ensures.left ∙ ap (λ (text : List ℕ). after_dim p r.partial.lists.dims_left (record { name = text; length = x.length })) c.in_ok-name.ensures.same)
    (c.in-Ok.ensures.begins ∙ sym (ap (λ n. begins_of n r.partial.lists.vars) c.requires.next))

pub returns-in_err-name-clause-needs : goal.returns-in_err-name-clause-needs
returns-in_err-name-clause-needs c =
    let p = c.args.reading.now.partial.lists.parts in
    let after = c.in-Some.found.after.now in
    let x : Dim = record { name = c.in-Some.found.name.now; length = c.in-Some.found.length } in
    if_err c.from_residual.result _ (needed c.args.reading.now (nexts.NameLength named.Dim) c.args.rest.now c.requires.next
    (x, after, subst (λ (dims : List Dim). AtFront (dim p.version dims) x c.args.rest.now after) c.deref.ensures.value c.in-Some.ensures.at_front))

pub returns-in-Err-clause-needs : goal.returns-in-Err-clause-needs
returns-in-Err-clause-needs c =
    let p = c.args.reading.now.partial.lists.parts in
    let after = c.in-Some.found.after.now in
    let x : Dim = record { name = c.in-Some.found.name.now; length = c.in-Some.found.length } in
    (needed c.args.reading.now (nexts.NameLength named.Dim) c.args.rest.now c.requires.next
    (x, after, subst (λ (dims : List Dim). AtFront (dim p.version dims) x c.args.rest.now after) c.deref.ensures.value c.in-Some.ensures.at_front))
