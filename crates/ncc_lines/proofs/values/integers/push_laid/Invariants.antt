use Rattle.std.proofs.Common.{◌≡◌, ◌≤◌, ◌*◌, length, drop}
use Rattle.std.specs.List.{flat_map}
use Rattle.ncc_lines.proofs.values.integers.push_laid.Given as goal

abbrev pub invariant-loop-left : goal.invariant-loop-left
invariant-loop-left g l = record {
  there : l.left ≤ length l.values;
  room : l.left * 21 ≤ l.start;
  within : l.start ≤ length l.room;
  laid : drop l.start l.room ≡ flat_map g.I.Whole.word (drop l.left l.values);
}

abbrev pub decreases-loop-left : goal.decreases-loop-left
decreases-loop-left g l = l.left
