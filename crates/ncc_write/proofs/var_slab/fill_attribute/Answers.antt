use Rattle.std.proofs.Common.{◌≡◌, eqb, sym, ap₂, ◌∙◌}
use Rattle.std.specs.Cmp.Lexicographic.{pointwise}
use Rattle.ncc_build.specs.Fill.{fill_name}
use Rattle.ncc_write.proofs.FillValues.{named_next, chosen, others}
use Rattle.ncc_write.proofs.var_slab.fill_attribute.Goals as goal

pub returns-then-eq : goal.returns-then-eq
returns-then-eq c =
    let read : pointwise eqb c.as_slice.result.now c.as_slice-in-loop-attr.result.now ≡ pointwise eqb c.attr-item.result.name fill_name = ap₂ (pointwise eqb) c.as_slice.ensures c.as_slice-in-loop-attr.ensures in
    let next = named_next c.args.attrs.now c.loop-attr.attr-index c.attr-item.result c.attr-item.result c.eq.result fill_name c.loop-attr-test.true c.attr-item.is (c.eq.ensures ∙ read) in
    sym (sym c.loop-attr.invariant ∙ next ∙ chosen _ _ c.eq.result c.if-eq.true)

pub loop-attr-preserved : goal.loop-attr-preserved
loop-attr-preserved c =
    let read : pointwise eqb c.as_slice.result.now c.as_slice-in-loop-attr.result.now ≡ pointwise eqb c.attr-item.result.name fill_name = ap₂ (pointwise eqb) c.as_slice.ensures c.as_slice-in-loop-attr.ensures in
    let next = named_next c.args.attrs.now c.loop-attr.attr-index c.attr-item.result c.attr-item.result c.eq.result fill_name c.loop-attr-test.true c.attr-item.is (c.eq.ensures ∙ read) in
    sym (next ∙ others _ _ c.eq.result c.if-eq.false) ∙ c.loop-attr.invariant
