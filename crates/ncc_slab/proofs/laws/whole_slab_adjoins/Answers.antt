use Rattle.ncc_slab.proofs.SlabBytes.{whole_slab_adjoins}
use Rattle.ncc_slab.proofs.laws.whole_slab_adjoins.Goals as goal

pub returns : goal.returns
returns c = λ p file var number has. whole_slab_adjoins p (c.placed_file_keeps_all_rules.ensures p) file var number has
