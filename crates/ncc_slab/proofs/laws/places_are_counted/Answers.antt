use Rattle.ncc_slab.proofs.PartPlaces.{places_counted}
use Rattle.ncc_slab.proofs.laws.places_are_counted.Goals as goal

pub returns : goal.returns
returns c = λ record_size x s. places_counted record_size x s
