use Rattle.std.proofs.Common.{◌≡◌, drop}
use Rattle.std.specs.List.{position_from}
use Rattle.ncc_csv.specs.Picks.{is_zero}
use Rattle.ncc_csv.proofs.pick.Pick.first_zero.Given as goal

abbrev pub invariant-loop-k : goal.invariant-loop-k
invariant-loop-k l = position_from is_zero l.k (drop l.k l.numbers) ≡ position_from is_zero 0 l.numbers
