use Rattle.ncc_write.proofs.Fronts.{written_front}
use Rattle.ncc_write.proofs.laws.written_stays.Goals as goal

pub returns : goal.returns
returns c = written_front
