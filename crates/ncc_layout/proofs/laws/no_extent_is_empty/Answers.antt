use Rattle.ncc_layout.proofs.Laying.{none_is_empty}
use Rattle.ncc_layout.proofs.laws.no_extent_is_empty.Goals as goal

pub returns : goal.returns
returns c = λ s places sound. none_is_empty s places sound
