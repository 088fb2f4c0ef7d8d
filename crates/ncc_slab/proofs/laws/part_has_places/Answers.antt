use Rattle.ncc_slab.proofs.PartPlaces.{part_places}
use Rattle.ncc_slab.proofs.laws.part_has_places.Goals as goal

pub returns : goal.returns
returns c = λ record_size x s first n. part_places record_size x s first n
