use Rattle.std.proofs.Common.{◌≡◌, ◌+◌, ◌*◌, drop, length}
use Rattle.ncc_layout.specs.Sizes.{product}
use Rattle.ncc_layout.specs.Elements.{row_major, Inside}
use Rattle.ncc_layout.proofs.element.row_major.Given as goal

abbrev pub invariant-loop-k : goal.invariant-loop-k
invariant-loop-k l = record {
  long : length l.lengths ≡ length l.index;
  inside : Inside (drop l.k l.lengths) (drop l.k l.index);
  so_far : l.number * product (drop l.k l.lengths) + row_major (drop l.k l.lengths) (drop l.k l.index) ≡ row_major l.lengths l.index;
}
