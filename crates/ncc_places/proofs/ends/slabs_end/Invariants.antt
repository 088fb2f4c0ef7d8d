use Rattle.std.proofs.Common.{◌≡◌, ◌<◌, ◌^◌, drop, max}
use Rattle.ncc_layout.specs.Extents.{greatest_end, records_of}
use Rattle.ncc_places.proofs.ends.slabs_end.Given as goal

abbrev pub invariant-loop-extent : goal.invariant-loop-extent
invariant-loop-extent l = record {
  value : max l.last (greatest_end (records_of (drop l.extent-index l.extents))) ≡ greatest_end (records_of l.extents);
  small : l.last < 2 ^ 65;
}
