use Rattle.ncc_slab.proofs.PartPlaces.{all_taken}
use Rattle.ncc_slab.proofs.laws.end_is_all_taken.Goals as goal

pub returns : goal.returns
returns c = λ record_size x s first le. all_taken record_size x s first le
