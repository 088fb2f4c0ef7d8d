use Rattle.ncc_slab.proofs.SlabBytes.{whole_slab_is_there}
use Rattle.ncc_slab.proofs.laws.whole_slab_is_there.Goals as goal

pub returns : goal.returns
returns c = λ p var number has. whole_slab_is_there p (c.placed_file_keeps_all_rules.ensures p) var number has
