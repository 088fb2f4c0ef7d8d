use Rattle.std.proofs.Common.{◌≡◌, ◌++◌, drop}
use Rattle.ncc_check.specs.Notes.{extents_in}
use Rattle.ncc_places.proofs.ordering.extents_in.Given as goal

abbrev pub invariant-loop-number : goal.invariant-loop-number
invariant-loop-number l = l.extents.items ++ drop l.number (extents_in l.header) ≡ extents_in l.header
