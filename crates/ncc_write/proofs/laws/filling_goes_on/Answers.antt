use Rattle.ncc_write.proofs.Filling.{filling_goes_on, filled_at_end}
use Rattle.ncc_write.proofs.laws.filling_goes_on.Goals as goal

pub returns : goal.returns
returns c = record { onward = filling_goes_on; ends = filled_at_end }
