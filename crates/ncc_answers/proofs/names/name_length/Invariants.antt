use Rattle.std.proofs.Common.{◌-◌, ◌≤◌, take, length}
use Rattle.ncc_answers.specs.Names.{IsName}
use Rattle.ncc_answers.proofs.names.name_length.Given as goal

abbrev pub invariant-loop-i : goal.invariant-loop-i
invariant-loop-i l = record {
  within : l.i ≤ length l.list;
  name : IsName (take l.i l.list);
}

abbrev pub decreases-loop-i : goal.decreases-loop-i
decreases-loop-i l = length l.list - l.i
