use Rattle.ncc_layout.proofs.StandardRules.{is_placed}
use Rattle.ncc_layout.proofs.laws.standard_places_keep_all_rules.Goals as goal

pub returns : goal.returns
returns c = λ s n known fits. is_placed s n known fits
