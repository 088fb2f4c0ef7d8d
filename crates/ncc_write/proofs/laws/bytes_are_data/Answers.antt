use Rattle.ncc_write.proofs.Taking.{taken_is_dataset, taken_is_data}
use Rattle.ncc_write.proofs.laws.bytes_are_data.Goals as goal

pub returns : goal.returns
returns c = λ s taken sound typed counted are long.
    (taken_is_dataset s taken are long sound typed counted, taken_is_data s taken are long)
