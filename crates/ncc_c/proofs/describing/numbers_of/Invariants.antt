use Rattle.std.proofs.Common.{◌≡◌, take}
use Rattle.ncc_c.proofs.describing.numbers_of.Given as goal

abbrev pub invariant-loop-k : goal.invariant-loop-k
invariant-loop-k l = l.items.items ≡ take l.k l.ids
