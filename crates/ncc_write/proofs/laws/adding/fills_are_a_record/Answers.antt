use Rattle.ncc_layout.specs.Sizes.{record_vars}
use Rattle.ncc_write.proofs.HeldRecords.{fills_for}
use Rattle.ncc_write.proofs.laws.adding.fills_are_a_record.Goals as goal

pub returns : goal.returns
returns c = λ s sound. fills_for s.dims (record_vars s.dims s.vars)
