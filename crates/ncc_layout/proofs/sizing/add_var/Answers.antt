use Rattle.std.proofs.Common.{sym, ◌∙◌}
use Rattle.ncc_layout.proofs.Summing.{adds_record}
use Rattle.ncc_layout.proofs.sizing.add_var.Goals as goal

pub returns : goal.returns
returns c = adds_record c.args.dims.now c.args.var.now c.args.totals c.in_ok-with_slab.field-0 c.in_ok-slab.slab (sym c.is_record_var.ensures ∙ c.if-not-is_record_var.false) c.in_ok-slab.ensures c.in_ok-with_slab.ensures
