use Rattle.std.proofs.Common.{◌≡◌, drop}
use Rattle.ncc_layout.specs.Extents.{records_of}
use Rattle.ncc_layout.specs.Bounds.{first_begin, first_begin_from}
use Rattle.ncc_layout.proofs.records.first_begin.Given as goal

abbrev pub invariant-loop-extent : goal.invariant-loop-extent
invariant-loop-extent l = first_begin_from l.first (records_of (drop l.extent-index l.extents)) ≡ first_begin (records_of l.extents)
