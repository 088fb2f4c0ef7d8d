use Rattle.std.proofs.Common.{◌≡◌, ◌++◌, map}
use Rattle.ncc_csv.specs.Runs.{slab_row, first_rows}
use Rattle.ncc_csv.proofs.block.put_scalar.Given as goal

abbrev pub invariant-loop-k : goal.invariant-loop-k
invariant-loop-k g l = l.page.items ≡ l.fn.page.items ++ first_rows (slab_row l.slab l.first (map (g.T.Cell.text l.style) l.values)) l.k
