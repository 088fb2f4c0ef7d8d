use Rattle.ncc_layout.proofs.StandardRules.{are_packed}
use Rattle.ncc_layout.proofs.laws.standard_places_are_packed.Goals as goal

pub returns : goal.returns
returns c = λ s. are_packed s
