use Rattle.std.proofs.Common.{◌≡◌, ◌≤◌, map, take}
use Rattle.std.specs.Vec.{vec_capacity}
use Rattle.ncc_csv.specs.Word.{word_text}
use Rattle.ncc_csv.specs.Plain.{with_commas}
use Rattle.ncc_csv.proofs.row.set_front.Given as goal

abbrev pub invariant-loop-k : goal.invariant-loop-k
invariant-loop-k l = record {
  front : l.front.items ≡ with_commas (take l.k (map word_text l.heads));
  room : vec_capacity l.fn.front ≤ vec_capacity l.front;
}
