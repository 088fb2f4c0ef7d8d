use Rattle.ncc_write.proofs.Completing.{completes}
use Rattle.ncc_write.proofs.laws.taking_all_completes.Goals as goal

pub returns : goal.returns
returns c = completes c.file_passes.ensures.unnoted
