use Rattle.ncc_layout.proofs.OneMore.{one_more}
use Rattle.ncc_layout.proofs.laws.one_more_is_placed.Goals as goal

pub returns : goal.returns
returns c = λ s places header file more n p q known holds more_of. one_more s places header file more n p known holds q more_of
