use Rattle.std.proofs.Common.{◌<◌, ◌≤◌, length, drop}
use Rattle.ncc_slab.specs.Grids.{IsDense}
use Rattle.ncc_slab.proofs.grid.Grid.dense_from.Given as goal

abbrev pub invariant-loop-from : goal.invariant-loop-from
invariant-loop-from l = record {
  within : l.from ≤ length l.self.axes.items;
  dense : l.from < length l.self.axes.items → IsDense l.step (drop l.from l.self.axes.items);
}

abbrev pub decreases-loop-from : goal.decreases-loop-from
decreases-loop-from l = l.from
