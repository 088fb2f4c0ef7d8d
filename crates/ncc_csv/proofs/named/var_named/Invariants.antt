use Rattle.std.proofs.Common.{ℕ, ◌<◌}
use Rattle.ncc_csv.specs.Named.{IsNamed}
use Rattle.ncc_csv.proofs.named.var_named.Given as goal

abbrev pub invariant-loop-k : goal.invariant-loop-k
invariant-loop-k l = (i : ℕ) → i < l.k → IsNamed l.vars l.name i → ⊥
