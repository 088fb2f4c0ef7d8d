use Rattle.std.proofs.Common.{◌≡◌, take}
use Rattle.ncc_csv.specs.Picks.{fitting_counts}
use Rattle.ncc_csv.proofs.pick.Pick.fitting_all.Given as goal

abbrev pub invariant-loop-k : goal.invariant-loop-k
invariant-loop-k l = l.count.items ≡ fitting_counts (take l.k l.lengths) (take l.k l.start) (take l.k l.stride)
