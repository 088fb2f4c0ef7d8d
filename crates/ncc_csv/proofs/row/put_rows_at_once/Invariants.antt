use Rattle.std.proofs.Common.{◌≡◌, ◌≤◌, ◌+◌, ◌-◌, ◌*◌, ◌++◌, ℕ, List, length, drop, map}
use Rattle.std.specs.List.{AllByRecursion}
use Rattle.ncc_csv.specs.Plain.{IsPlain, with_commas}
use Rattle.ncc_csv.specs.Runs.{run_row, first_rows}
use Rattle.ncc_csv.proofs.row.put_rows_at_once.Given as goal

abbrev pub invariant-loop-k : goal.invariant-loop-k
invariant-loop-k g l = record {
  above : l.from ≤ l.k;
  below : l.k ≤ l.to;
  room : 64 + (l.k - l.from) * 110 ≤ l.at;
  within : l.at ≤ length l.room;
  rows : (heads : List (List ℕ)) → AllByRecursion IsPlain heads → drop (64 - l.size) l.front ≡ with_commas heads
      → first_rows (run_row heads l.start l.stride (map (g.T.Cell.text l.style) l.values)) l.k ++ drop l.at l.room
      ≡ first_rows (run_row heads l.start l.stride (map (g.T.Cell.text l.style) l.values)) l.to;
}

abbrev pub decreases-loop-k : goal.decreases-loop-k
decreases-loop-k g l = l.k
