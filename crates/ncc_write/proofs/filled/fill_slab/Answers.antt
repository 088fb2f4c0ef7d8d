use Rattle.std.proofs.Common.{length, replicate, ap, sym, ◌∙◌, arith}
use Rattle.std.specs.List.{concat}
use Rattle.ncc_values.specs.Values.{values_of, with_bytes}
use Rattle.ncc_values.specs.declared.values.Values.{Values}
use Rattle.ncc_write.specs.VarSlabs.{var_slab_fill}
use Rattle.ncc_write.proofs.RecordParts.{fills_more}
use Rattle.ncc_write.proofs.filled.fill_slab.Goals as goal

pub loop-done-preserved : goal.loop-done-preserved
loop-done-preserved c =
    let var_slab = c.args.var_slab in
    let done = c.loop-done.done in
    let count = c.min-count.result in
    record {
      within = omega (arith, c.min-count.ensures, c.loop-done-test.true);
      values = c.in_ok-add_fills.ensures.ok
          ∙ ap (λ (v : Values). with_bytes v (concat (replicate count c.fill.result.now))) c.loop-done.invariant.values
          ∙ ap (λ fill. with_bytes (values_of var_slab.xtype (concat (replicate done (var_slab_fill var_slab)))) (concat (replicate count fill))) c.fill.ensures.fill
          ∙ fills_more var_slab.xtype done count (var_slab_fill var_slab) (ap length (sym c.fill.ensures.fill) ∙ c.fill.ensures.long);
    }
