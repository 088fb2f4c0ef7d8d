use Rattle.std.proofs.Common.{◌≡◌, ◌+◌, ◌*◌, ◌<◌, ◌^◌, ◌++◌, drop}
use Rattle.ncc_layout.specs.Sizes.{product}
use Rattle.ncc_slab.specs.Axes.{axes_of, inner_units, dot, times, last_of, ArePositive}
use Rattle.ncc_slab.proofs.gridding.add_axes.Given as goal

abbrev pub invariant-loop-k : goal.invariant-loop-k
invariant-loop-k l = record {
  unit : l.unit ≡ product (drop l.k l.lengths) * l.size;
  width : l.width ≡ product (drop l.k l.count);
  offset : l.offset + dot (inner_units l.size (drop l.k l.lengths)) (drop l.k l.start) ≡ dot (inner_units l.size l.lengths) l.start;
  axes : l.axes.items ++ axes_of (drop l.k l.count) (times (inner_units l.size (drop l.k l.lengths)) (drop l.k l.stride))
      ≡ l.fn.axes.items ++ axes_of l.count (times (inner_units l.size l.lengths) l.stride);
  lengths : ArePositive (drop l.k l.lengths);
  counts : ArePositive (drop l.k l.count);
  last : dot (inner_units l.size (drop l.k l.lengths)) (last_of (drop l.k l.start) (drop l.k l.count) (drop l.k l.stride)) < 2 ^ 64;
}
