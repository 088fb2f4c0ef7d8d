use Rattle.std.proofs.Common.{◌≡◌, ◌≤◌, drop, length}
use Rattle.ncc_layout.specs.Sizes.{product}
use Rattle.ncc_schema.specs.Names.{capped}
use Rattle.ncc_csv.proofs.empty_texts.product.Given as goal

abbrev pub invariant-loop-k : goal.invariant-loop-k
invariant-loop-k l = record {
  within : l.k ≤ length l.numbers;
  so_far : l.product ≡ capped (product (drop l.k l.numbers));
}

abbrev pub decreases-loop-k : goal.decreases-loop-k
decreases-loop-k l = l.k
