use Rattle.std.proofs.Common.{◌≡◌, drop, max}
use Rattle.ncc_layout.specs.Extents.{fixed_of, greatest_end}
use Rattle.ncc_places.proofs.ends.fixed_end.Given as goal

abbrev pub invariant-loop-extent : goal.invariant-loop-extent
invariant-loop-extent l = max l.last (greatest_end (fixed_of (drop l.extent-index l.extents))) ≡ greatest_end (fixed_of l.extents)
