use Rattle.std.proofs.Common.{take}
use Rattle.std.specs.List.{AllByRecursion}
use Rattle.ncc_values.specs.Values.{AreInRange}
use Rattle.ncc_write.proofs.image.all_in_range.Given as goal

abbrev pub invariant-loop-slab : goal.invariant-loop-slab
invariant-loop-slab l = AllByRecursion AreInRange (take l.slab-index l.slabs)
