use Rattle.ncc_layout.proofs.RowMajor.{one_index}
use Rattle.ncc_layout.proofs.laws.indices_have_numbers_of_their_own.Goals as goal

pub returns : goal.returns
returns c = λ lengths is js h k e. one_index lengths is js h k e
