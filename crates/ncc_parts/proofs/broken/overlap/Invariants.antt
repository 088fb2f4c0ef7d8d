use Rattle.std.proofs.Common.{◌≡◌, drop}
use Rattle.ncc_check.specs.Notes.{extents_in}
use Rattle.ncc_parts.specs.Breaking.{extent_at, first_overlap, overlap}
use Rattle.ncc_parts.proofs.broken.overlap.Given as goal

abbrev pub invariant-loop-other : goal.invariant-loop-other
invariant-loop-other l = overlap l.header l.number ≡ first_overlap (extent_at l.header l.number) l.other (drop l.other (extents_in l.header))
