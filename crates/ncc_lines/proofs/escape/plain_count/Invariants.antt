use Rattle.std.proofs.Common.{◌≡◌, take}
use Rattle.ncc_lines.specs.Words.{name_text}
use Rattle.ncc_lines.proofs.escape.plain_count.Given as goal

abbrev pub invariant-loop-i : goal.invariant-loop-i
invariant-loop-i l = name_text (take l.i l.bytes) ≡ take l.i l.bytes
