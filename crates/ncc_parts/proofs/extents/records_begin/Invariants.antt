use Rattle.std.proofs.Common.{◌≡◌, drop}
use Rattle.ncc_check.specs.Notes.{extents_in}
use Rattle.ncc_layout.specs.Extents.{least_begin, records_of}
use Rattle.ncc_parts.proofs.extents.records_begin.Given as goal

abbrev pub invariant-loop-number : goal.invariant-loop-number
invariant-loop-number l = l.least ≡ least_begin (records_of (drop l.number (extents_in l.header)))
