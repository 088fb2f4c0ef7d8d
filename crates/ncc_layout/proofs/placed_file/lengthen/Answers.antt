use Rattle.ncc_layout.specs.Elements.{HasLengths, with_records}
use Rattle.ncc_layout.proofs.Lengthening.{mapped_more, all_further}
use Rattle.ncc_layout.proofs.placed_file.lengthen.Goals as goal

pub loop-var-preserved : goal.loop-var-preserved
loop-var-preserved c = record {
  so_far = mapped_more (with_records c.args.records) c.deref_mut-var-items.result.now c.loop-var.var-items c.loop-var.var-index c.var-item.result c.lengthen_var.new.var c.loop-var-test.true c.loop-var.invariant.so_far c.lengthen_var.ensures;
  rest = all_further HasLengths c.deref_mut-var-items.result.now c.loop-var.var-index c.loop-var.invariant.rest;
}
