use Rattle.ncc_slab.proofs.PartPlaces.{places_add_part}
use Rattle.ncc_slab.proofs.laws.places_add_part.Goals as goal

pub returns : goal.returns
returns c = λ file record_size x s first n old new. places_add_part file record_size x s first n old new
