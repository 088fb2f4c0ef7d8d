use Rattle.ncc_write.proofs.Ending.{ends_when_filled}
use Rattle.ncc_write.proofs.laws.complete_when_taken.Goals as goal

pub returns : goal.returns
returns c = ends_when_filled
