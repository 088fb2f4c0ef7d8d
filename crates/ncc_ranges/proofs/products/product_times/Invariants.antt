use Rattle.std.proofs.Common.{◌≡◌, ◌*◌, drop}
use Rattle.ncc_layout.specs.Sizes.{product}
use Rattle.ncc_slab.specs.Axes.{ArePositive}
use Rattle.ncc_ranges.proofs.products.product_times.Given as goal

abbrev pub invariant-loop-k : goal.invariant-loop-k
invariant-loop-k l = record {
  whole : l.product * product (drop l.k l.numbers) ≡ product l.numbers * l.size;
  positive : ArePositive (drop l.k l.numbers);
}
