use Rattle.ncc_write.proofs.Laying.{written_all}
use Rattle.ncc_write.proofs.laws.written_in_full.Goals as goal

pub returns : goal.returns
returns c = written_all
