use Rattle.std.proofs.Common.{sym, ◌∙◌}
use Rattle.ncc_layout.specs.Sizes.{record_vars}
use Rattle.ncc_write.proofs.RecordParts.{none_wrong}
use Rattle.ncc_write.proofs.image.judge_slabs.Goals as goal

pub returns-in-None-clause-fits : goal.returns-in-None-clause-fits
returns-in-None-clause-fits c =
    let s = c.args.schema.now in
    none_wrong s.dims 0 (record_vars s.dims s.vars) c.args.slabs.now c.all_in_range.ensures
    (sym c.wrong_at.ensures ∙ c.in-None.is)
