use Rattle.std.proofs.Common.{◌≤◌, ◌↔◌, drop}
use Rattle.std.specs.List.{AllByRecursion}
use Rattle.ncc_layout.specs.Standard.{size_limit}
use Rattle.ncc_layout.proofs.planning.fitting.words_fit.Given as goal

abbrev pub invariant-loop-size : goal.invariant-loop-size
invariant-loop-size l = AllByRecursion (λ n. n ≤ size_limit l.fn.version) (drop l.size-index l.sizes) ↔ AllByRecursion (λ n. n ≤ size_limit l.fn.version) l.sizes
