use Rattle.std.proofs.Common.{◌≡◌, map, take}
use Rattle.ncc_csv.specs.Numbers.{between_commas, AreNumbers}
use Rattle.ncc_csv.proofs.numbers.parse_list.Given as goal

abbrev pub invariant-loop-piece : goal.invariant-loop-piece
invariant-loop-piece l = record {
  same : map (λ x. x.now) l.piece-items ≡ between_commas l.text;
  so_far : AreNumbers (take l.piece-index (between_commas l.text)) l.numbers.items;
}
