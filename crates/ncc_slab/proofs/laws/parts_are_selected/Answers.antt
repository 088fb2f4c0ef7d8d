use Rattle.ncc_slab.proofs.AllParts.{parts_are_selected}
use Rattle.ncc_slab.proofs.laws.parts_are_selected.Goals as goal

pub returns : goal.returns
returns c = λ file record_size x s counts values all. parts_are_selected file record_size x s counts values all
