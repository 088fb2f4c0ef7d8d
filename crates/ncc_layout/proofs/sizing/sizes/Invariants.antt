use Rattle.std.proofs.Common.{◌≡◌, ◌≤◌, map, take}
use Rattle.ncc_layout.specs.Sizes.{room, slab, rounded, Sums, NoneTooLarge}
use Rattle.ncc_layout.proofs.sizing.sizes.Given as goal

abbrev pub invariant-loop-number : goal.invariant-loop-number
invariant-loop-number l = record {
  slabs : l.slabs.items ≡ map (slab l.dims) (take l.number l.vars);
  rounded : l.rounded.items ≡ map (rounded l.dims) (take l.number l.vars);
  sums : Sums l.dims (take l.number l.vars) l.totals;
  fit : NoneTooLarge l.dims (take l.number l.vars);
  room : l.totals.sum ≤ room;
}
