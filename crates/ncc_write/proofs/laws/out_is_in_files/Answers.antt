use Rattle.ncc_write.proofs.Fronts.{out_in_files}
use Rattle.ncc_write.proofs.laws.out_is_in_files.Goals as goal

pub returns : goal.returns
returns c = out_in_files
