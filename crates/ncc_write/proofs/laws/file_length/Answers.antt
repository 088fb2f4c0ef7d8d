use Rattle.ncc_write.proofs.FileLengths.{file_length_is}
use Rattle.ncc_write.proofs.laws.file_length.Goals as goal

pub returns : goal.returns
returns c = file_length_is
