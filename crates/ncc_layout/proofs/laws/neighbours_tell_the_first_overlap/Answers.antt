use Rattle.ncc_layout.proofs.Neighbours.{shared_by_neighbours, neighbours_by_shared}
use Rattle.ncc_layout.proofs.laws.neighbours_tell_the_first_overlap.Goals as goal

pub returns : goal.returns
returns c = λ es sorted n bytes moved order. (neighbours_by_shared es sorted n bytes moved order, shared_by_neighbours es sorted n bytes moved order)
