use Rattle.std.proofs.Common.{◌+◌, ◌-◌, ◌∷◌, ◌++◌, ℕ, List, [], length, refl, sym, ap, ◌∙◌, arith}
use Rattle.ncc_values.specs.Version.{offset_width_of}
use Rattle.ncc_schema.specs.Schema.{Place}
use Rattle.ncc_schema.specs.declared.schema.Var.{Var}
use Rattle.ncc_header.specs.declared.partial.Parts.{Parts}
use Rattle.ncc_header.specs.declared.partial.Vars.{Vars}
use Rattle.ncc_header.specs.Left.{before_of, begins_of, begins_of_vars, come_of, from_type, from_vars}
use Rattle.ncc_header.specs.AtFront.{placed}
use Rattle.ncc_header.specs.declared.partial.Next.TheVariants as nexts
use Rattle.ncc_header.proofs.WholeItems.{went_begin, starts_tail, needed}
use Rattle.ncc_header.proofs.rules.whole_var.take_tail.Goals as goal

pub returns-in-Ok-clause-some : goal.returns-in-Ok-clause-some
returns-in-Ok-clause-some c =
    let r = c.args.reading.now in
    let l = r.partial.lists in
    let v = l.parts.version in
    let tail = c.in-Some.tail in
    let after = tail.after.now in
    let name = l.var.name in
    let ids = l.var.dims.items in
    let notes = l.attrs.items in
    let begun = c.end_var-var in
    let vars = c.add_var.new.vars in
    let used : ℕ = length c.args.rest.now - length after in
    let place : Place = record { vsize = tail.vsize; begin = tail.begin } in
    went_begin r _ c.args.rest.now after _ (ap (λ n. come_of n r.partial) c.requires.next) c.requires.none (omega (arith, c.in-Some.ensures.less)) (omega (arith, c.requires.within))
    c.next_var-reading.ensures.fresh c.requires.none refl refl refl
    (from_type v name ids notes) (λ y. from_vars l.parts (before_of l.vars ++ y ∷ []) l.vars.left) (placed name ids notes tail.xtype tail.vsize tail.begin) (offset_width_of v)
    (starts_tail r c.requires.next) (c.in-Some.ensures.at_front name ids notes)
    (c.next_var-reading.ensures.left
    ∙ ap (λ (q : Parts). from_vars q (before_of vars) vars.left) begun.ensures.parts
    ∙ ap (λ (k : ℕ). from_vars l.parts (before_of vars) k) (c.in-Ok.ensures.left ∙ ap (λ (w : Vars). w.left) begun.ensures.vars)
    ∙ ap (λ (xs : List (Var × Place)). from_vars l.parts xs l.vars.left)
    (c.in-Ok.ensures.before ∙ ap (λ (w : Vars). before_of w ++ (begun.result, place) ∷ []) begun.ensures.vars ∙ ap (λ (y : Var). before_of l.vars ++ (y, place) ∷ []) begun.ensures.var))
    (c.next_var-reading.ensures.begins ∙ c.in-Ok.ensures.begins
    ∙ ap (λ (w : Vars). begins_of_vars w ++ (r.at + used - c.offset_width.result) ∷ []) begun.ensures.vars
    ∙ ap (λ (n : ℕ). begins_of_vars l.vars ++ (r.at + used - n) ∷ []) c.offset_width.ensures
    ∙ sym (ap (λ n. begins_of n l.vars ++ (r.at + used - offset_width_of v) ∷ []) c.requires.next))

pub returns-in-Err-clause-needs : goal.returns-in-Err-clause-needs
returns-in-Err-clause-needs c =
    let l = c.args.reading.now.partial.lists in
    let tail = c.in-Some.tail in
    let name = l.var.name in
    let ids = l.var.dims.items in
    let notes = l.attrs.items in
    needed c.args.reading.now nexts.VarType c.args.rest.now c.requires.next
    (placed name ids notes tail.xtype tail.vsize tail.begin, tail.after.now, c.in-Some.ensures.at_front name ids notes)
