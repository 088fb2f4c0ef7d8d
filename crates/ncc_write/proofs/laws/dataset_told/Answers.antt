use Rattle.ncc_write.proofs.Telling.{dataset_told}
use Rattle.ncc_write.proofs.laws.dataset_told.Goals as goal

pub returns : goal.returns
returns c = dataset_told
