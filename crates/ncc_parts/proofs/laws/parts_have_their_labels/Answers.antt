use Rattle.ncc_parts.proofs.Labels.{labelled, placed, some_bytes}
use Rattle.ncc_parts.proofs.laws.parts_have_their_labels.Goals as goal

pub returns : goal.returns
returns c = record {
  items = λ s places x o long lt. labelled s places long x o lt;
  some = some_bytes;
  places = λ s places i m long lt some few. placed s places long i m lt some few;
}
