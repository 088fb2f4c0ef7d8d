use Rattle.ncc_layout.specs.Sizes.{record_size_of}
use Rattle.ncc_layout.specs.Extents.{record_count}
use Rattle.ncc_layout.specs.Elements.{placed_vars}
use Rattle.ncc_layout.proofs.Own.{own}
use Rattle.ncc_layout.proofs.Laying.{laid}
use Rattle.ncc_layout.proofs.laws.placed_elements_are_apart.Goals as goal

pub returns : goal.returns
returns c = λ s places header file placed.
    own header file (record_size_of s) (record_count s places file) (placed_vars s places file)
    (laid header file (record_size_of s) (record_count s places file) s places placed.rules)
