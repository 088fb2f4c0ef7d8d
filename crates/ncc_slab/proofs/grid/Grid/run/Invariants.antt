use Rattle.std.proofs.Common.{◌≡◌, ◌+◌, ◌*◌, ◌<◌, ◌≤◌, ◌^◌, drop, ℕ}
use Rattle.ncc_slab.specs.Axes.{offset_at, place_at}
use Rattle.ncc_slab.specs.Grids.{IsDenseFrom}
use Rattle.ncc_slab.proofs.grid.Grid.run.Given as goal

abbrev pub invariant-loop-k : goal.invariant-loop-k
invariant-loop-k l = record {
  sum : l.place + offset_at (drop l.k l.self.axes.items) l.number ≡ place_at l.self.base l.self.axes.items l.n;
  fits : place_at l.self.base l.self.axes.items l.n < 2 ^ 64;
  some : 0 < l.count;
  within : l.count ≤ l.most;
  same : l.k ≤ l.from → (step : ℕ) (i : ℕ) → i < l.count → offset_at (drop l.k l.self.axes.items) (l.number + i) ≡ offset_at (drop l.k l.self.axes.items) l.number + i * step
      → offset_at l.self.axes.items (l.n + i) ≡ offset_at l.self.axes.items l.n + i * step;
  even : l.from ≤ l.k → (step : ℕ) → IsDenseFrom step l.self l.from → (i : ℕ) → i < l.count
      → offset_at l.self.axes.items (l.n + i) ≡ offset_at l.self.axes.items l.n + i * step;
}
