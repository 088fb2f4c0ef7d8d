use Rattle.std.proofs.Common.{◌≡◌, drop}
use Rattle.ncc_layout.specs.Extents.{records_of}
use Rattle.ncc_layout.specs.Bounds.{last_end, last_end_from}
use Rattle.ncc_layout.proofs.records.last_end.Given as goal

abbrev pub invariant-loop-extent : goal.invariant-loop-extent
invariant-loop-extent l = last_end_from l.last (records_of (drop l.extent-index l.extents)) ≡ last_end (records_of l.extents)
