use Rattle.std.proofs.Common.{◌≡◌, replicate}
use Rattle.ncc_ranges.proofs.steps.no_steps.Given as goal

abbrev pub invariant-loop-k : goal.invariant-loop-k
invariant-loop-k l = l.steps.items ≡ replicate l.k 0
