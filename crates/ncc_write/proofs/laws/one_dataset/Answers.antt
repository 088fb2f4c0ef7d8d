use Rattle.ncc_write.proofs.OneDatasets.{one_dataset}
use Rattle.ncc_write.proofs.laws.one_dataset.Goals as goal

pub returns : goal.returns
returns c = one_dataset
