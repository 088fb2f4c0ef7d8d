use Rattle.std.proofs.Common.{◌≡◌, ◌<◌, ℕ, List, [], length, get_or, map, sym, ap, ◌∙◌, arith}
use Rattle.std.proofs.lemmas.List.{get_or-map, length-map}
use Rattle.ncc_values.specs.declared.xtype.XType.TheVariants.{Byte}
use Rattle.ncc_schema.specs.declared.schema.Var.{Var}
use Rattle.ncc_layout.specs.Sizes.{rounded}
use Rattle.ncc_layout.specs.Standard.{vsize_word}
use Rattle.ncc_explain.proofs.numbers.due_vsize.Goals as goal

pub returns-in-Some : goal.returns-in-Some
returns-in-Some c =
    let s = c.args.schema.now in
    let n = c.args.number in
    let l = c.in-Some.ensures.lookup in
    let none : Var = record { name = []; dims = []; attrs = []; xtype = Byte } in
    let due : Var → ℕ = λ x. vsize_word s.version (rounded s.dims x) in
    let sizes : c.as_slice.result.now ≡ map (rounded s.dims) s.vars = c.as_slice.ensures ∙ c.requires.rounded in
    let there : n < length s.vars = omega (arith, l.3.0, ap length sizes, length-map s.vars (rounded s.dims)) in
    c.vsize_word.ensures
    ∙ ap (vsize_word s.version) (l.3.1 0 ∙ ap (λ (xs : List ℕ). get_or xs n 0) sizes ∙ get_or-map (rounded s.dims) s.vars n none 0 there)
    ∙ sym (get_or-map due s.vars n none 0 there)
