use Rattle.std.proofs.Common.{◌≡◌, ◌≤◌, ◌-◌, ◌++◌, ℕ, List, drop, map, length}
use Rattle.std.specs.List.{AllByRecursion}
use Rattle.std.specs.Vec.{vec_capacity}
use Rattle.ncc_csv.specs.Plain.{IsPlain, with_commas}
use Rattle.ncc_csv.specs.Runs.{run_row, first_rows}
use Rattle.ncc_csv.proofs.row.put_together.Given as goal

abbrev pub invariant-loop-done : goal.invariant-loop-done
invariant-loop-done g l = record {
  within : l.done ≤ length l.values;
  room : vec_capacity l.fn.page ≤ vec_capacity l.page;
  shared : drop (64 - length l.front) l.shared ≡ l.front;
  rows : (heads : List (List ℕ)) → AllByRecursion IsPlain heads → l.front ≡ with_commas heads
      → l.page.items ≡ l.fn.page.items ++ first_rows (run_row heads l.start l.stride (map (g.T.Cell.text l.style) l.values)) l.done;
}

abbrev pub decreases-loop-done : goal.decreases-loop-done
decreases-loop-done g l = length l.values - l.done
