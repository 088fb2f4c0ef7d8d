use Rattle.std.proofs.Common.{◌≡◌, ◌*◌, drop}
use Rattle.ncc_layout.specs.Sizes.{product}
use Rattle.ncc_slab.specs.Axes.{ArePositive}
use Rattle.ncc_slab.proofs.gridding.product.Given as goal

abbrev pub invariant-loop-k : goal.invariant-loop-k
invariant-loop-k l = record {
  whole : l.product * product (drop l.k l.numbers) ≡ product l.numbers;
  positive : ArePositive (drop l.k l.numbers);
}
