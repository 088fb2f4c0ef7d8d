use Rattle.ncc_write.proofs.Behind.{starts_first, next_is_behind}
use Rattle.ncc_write.proofs.laws.next_is_behind.Goals as goal

pub returns : goal.returns
returns c = λ s sound. record {
  first = starts_first s sound;
  behind =
      λ taken bytes n whole next long. next_is_behind s taken bytes n sound whole next long;
}
