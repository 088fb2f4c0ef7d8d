use Rattle.std.proofs.Common.{take}
use Rattle.ncc_values.specs.Values.{AreNumbersOf}
use Rattle.ncc_build.proofs.ranges.all_in_range.Given as goal

abbrev pub invariant-loop-item : goal.invariant-loop-item
invariant-loop-item g l = AreNumbersOf g.T.External.number g.T.External.TYPE (take l.item-index l.items)
