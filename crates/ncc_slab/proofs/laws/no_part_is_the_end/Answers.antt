use Rattle.ncc_slab.proofs.PartPlaces.{no_part}
use Rattle.ncc_slab.proofs.laws.no_part_is_the_end.Goals as goal

pub returns : goal.returns
returns c = λ t left. no_part t left
