use Rattle.std.proofs.Common.{◌≡◌, ◌+◌, ◌*◌, ◌++◌, drop}
use Rattle.std.specs.List.{AllByRecursion}
use Rattle.ncc_layout.specs.Sizes.{product}
use Rattle.ncc_slab.specs.Axes.{dot, inner_units, last_of, times, ArePositive}
use Rattle.ncc_slab.specs.Refusals.{along, Fits}
use Rattle.ncc_ranges.specs.Steps.{steps_along}
use Rattle.ncc_ranges.proofs.steps.add_steps.Given as goal

abbrev pub invariant-loop-k : goal.invariant-loop-k
invariant-loop-k l = record {
  unit : l.unit ≡ product (drop l.k l.lengths) * l.size;
  first : l.reach.first + dot (inner_units l.size (drop l.k l.lengths)) (drop l.k l.start) ≡ l.fn.reach.first + dot (inner_units l.size l.lengths) l.start;
  last : l.reach.last + dot (inner_units l.size (drop l.k l.lengths)) (last_of (drop l.k l.start) (drop l.k l.count) (drop l.k l.stride))
      ≡ l.fn.reach.last + dot (inner_units l.size l.lengths) (last_of l.start l.count l.stride);
  steps : l.steps.items ++ steps_along (drop l.k l.count) (times (inner_units l.size (drop l.k l.lengths)) (drop l.k l.stride))
      ≡ l.fn.steps.items ++ steps_along l.count (times (inner_units l.size l.lengths) l.stride);
  lengths : ArePositive (drop l.k l.lengths);
  counts : ArePositive (drop l.k l.count);
  fits : AllByRecursion Fits (along (drop l.k l.lengths) (drop l.k l.start) (drop l.k l.count) (drop l.k l.stride));
}
