use Rattle.ncc_layout.proofs.OneMore.{room}
use Rattle.ncc_layout.proofs.laws.room_for_one_more.Goals as goal

pub returns : goal.returns
returns c = λ s places header file more n p known holds placed. room s places header file more n p known holds placed
