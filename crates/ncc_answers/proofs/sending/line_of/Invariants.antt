use Rattle.std.proofs.Common.{◌-◌, ◌≡◌, ◌≤◌, ◌++◌, take, drop, length}
use Rattle.ncc_answers.specs.Shown.{first_line}
use Rattle.ncc_answers.proofs.sending.line_of.Given as goal

abbrev pub invariant-loop-i : goal.invariant-loop-i
invariant-loop-i l = record {
  within : l.i ≤ length l.text;
  so_far : first_line l.text ≡ take l.i l.text ++ first_line (drop l.i l.text);
}

abbrev pub decreases-loop-i : goal.decreases-loop-i
decreases-loop-i l = length l.text - l.i
