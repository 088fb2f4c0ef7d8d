use Rattle.ncc_slab.proofs.PartPlaces.{part_numbers}
use Rattle.ncc_slab.proofs.laws.part_has_numbers.Goals as goal

pub returns : goal.returns
returns c = λ file record_size x s first n old new of none adds. part_numbers file record_size x s first n old new of none adds
