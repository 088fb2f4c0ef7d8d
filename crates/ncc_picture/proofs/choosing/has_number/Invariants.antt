use Rattle.std.proofs.Common.{◌≡◌, drop}
use Rattle.ncc_picture.specs.Parts.{has_number}
use Rattle.ncc_picture.proofs.choosing.has_number.Given as goal

abbrev pub invariant-loop-extent : goal.invariant-loop-extent
invariant-loop-extent l = has_number (drop l.extent-index l.extents) l.number ≡ has_number l.extents l.number
