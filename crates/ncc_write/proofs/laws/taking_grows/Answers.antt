use Rattle.ncc_write.proofs.Growing.{grows}
use Rattle.ncc_write.proofs.laws.taking_grows.Goals as goal

pub returns : goal.returns
returns c = grows
