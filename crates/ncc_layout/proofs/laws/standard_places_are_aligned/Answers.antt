use Rattle.ncc_layout.proofs.StandardRules.{are_aligned}
use Rattle.ncc_layout.proofs.laws.standard_places_are_aligned.Goals as goal

pub returns : goal.returns
returns c = λ s. are_aligned s (c.header_is_aligned.ensures s)
