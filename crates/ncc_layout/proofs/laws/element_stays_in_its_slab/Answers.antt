use Rattle.ncc_layout.proofs.Own.{lies_in_slab}
use Rattle.ncc_layout.proofs.laws.element_stays_in_its_slab.Goals as goal

pub returns : goal.returns
returns c = λ record_size records x index shaped inside. lies_in_slab record_size records x index shaped inside
