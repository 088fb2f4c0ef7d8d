use Rattle.std.proofs.Common.{◌≡◌, ◌+◌, ◌<◌, ◌^◌, drop}
use Rattle.ncc_slab.specs.Axes.{offset_at, place_at}
use Rattle.ncc_slab.proofs.grid.Grid.place.Given as goal

abbrev pub invariant-loop-axis : goal.invariant-loop-axis
invariant-loop-axis l = record {
  sum : l.place + offset_at (drop l.axis-index l.self.axes.items) l.number ≡ place_at l.self.base l.self.axes.items l.n;
  fits : place_at l.self.base l.self.axes.items l.n < 2 ^ 64;
}
