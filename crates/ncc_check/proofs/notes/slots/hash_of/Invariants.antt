use Rattle.std.proofs.Common.{◌≡◌}
use Rattle.ncc_check.specs.Slots.{hash_of_first}
use Rattle.ncc_check.proofs.notes.slots.hash_of.Given as goal

abbrev pub invariant-loop-i : goal.invariant-loop-i
invariant-loop-i l = l.hash ≡ hash_of_first l.i l.name
