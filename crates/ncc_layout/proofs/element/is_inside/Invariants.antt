use Rattle.std.proofs.Common.{◌≡◌, drop, length}
use Rattle.ncc_layout.specs.Elements.{Inside}
use Rattle.ncc_layout.proofs.element.is_inside.Given as goal

abbrev pub invariant-loop-k : goal.invariant-loop-k
invariant-loop-k l = record {
  long : length l.lengths ≡ length l.index;
  onward : Inside l.lengths l.index → Inside (drop l.k l.lengths) (drop l.k l.index);
  back : Inside (drop l.k l.lengths) (drop l.k l.index) → Inside l.lengths l.index;
}
