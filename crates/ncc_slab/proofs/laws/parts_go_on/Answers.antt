use Rattle.ncc_slab.proofs.PartPlaces.{parts_go_on}
use Rattle.ncc_slab.proofs.laws.parts_go_on.Goals as goal

pub returns : goal.returns
returns c = λ record_size x s size first n old new le is takes. parts_go_on record_size x s size first n old new le is takes
