use Rattle.std.proofs.Common.{◌≡◌, map, take}
use Rattle.ncc_picture.specs.Parts.{turned}
use Rattle.ncc_picture.proofs.choosing.all_turned.Given as goal

abbrev pub invariant-loop-extent : goal.invariant-loop-extent
invariant-loop-extent l = l.all.items ≡ map turned (take l.extent-index l.extents)
