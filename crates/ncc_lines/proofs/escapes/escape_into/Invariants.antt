use Rattle.std.proofs.Common.{◌≡◌, ◌≤◌, ◌+◌, ◌*◌, ◌++◌, length, take}
use Rattle.ncc_lines.specs.Words.{name_text}
use Rattle.ncc_lines.proofs.escapes.escape_into.Given as goal

abbrev pub invariant-loop-b : goal.invariant-loop-b
invariant-loop-b l = record {
  len : length l.room ≡ length l.fn.room;
  within : l.end ≤ l.start + 4 * l.b-index;
  laid : take l.end l.room ≡ take l.start l.fn.room ++ name_text (take l.b-index l.bytes);
}
