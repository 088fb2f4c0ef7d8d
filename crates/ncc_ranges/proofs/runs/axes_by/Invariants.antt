use Rattle.std.proofs.Common.{◌≡◌, ◌++◌, drop}
use Rattle.ncc_layout.specs.Sizes.{product}
use Rattle.ncc_slab.specs.Axes.{axes_of, ArePositive}
use Rattle.ncc_ranges.proofs.runs.axes_by.Given as goal

abbrev pub invariant-loop-k : goal.invariant-loop-k
invariant-loop-k l = record {
  width : l.width ≡ product (drop l.k l.count);
  axes : l.axes.items ++ axes_of (drop l.k l.count) (drop l.k l.steps) ≡ axes_of l.count l.steps;
  counts : ArePositive (drop l.k l.count);
}
