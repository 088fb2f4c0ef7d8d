use Rattle.ncc_layout.proofs.StandardRules.{are_in_turn}
use Rattle.ncc_layout.proofs.laws.standard_places_are_in_turn.Goals as goal

pub returns : goal.returns
returns c = λ s. are_in_turn s
