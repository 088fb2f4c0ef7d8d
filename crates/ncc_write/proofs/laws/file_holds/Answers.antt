use Rattle.ncc_write.proofs.Holding.{file_holds}
use Rattle.ncc_write.proofs.laws.file_holds.Goals as goal

pub returns : goal.returns
returns c = file_holds
