use Rattle.std.proofs.Common.{◌≡◌, ◌≤◌, ◌-◌, ◌++◌, map, length}
use Rattle.ncc_csv.specs.Runs.{slab_row, first_rows}
use Rattle.ncc_csv.proofs.block.put_runs.Given as goal

abbrev pub invariant-loop-done : goal.invariant-loop-done
invariant-loop-done g l = record {
  within : l.done ≤ length l.values;
  added : l.page.items ≡ l.fn.page.items ++ first_rows (slab_row l.slab l.first (map (g.T.Cell.text l.style) l.values)) l.done;
}

abbrev pub decreases-loop-done : goal.decreases-loop-done
decreases-loop-done g l = length l.values - l.done
