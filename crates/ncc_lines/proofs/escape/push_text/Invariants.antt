use Rattle.std.proofs.Common.{◌≡◌, ◌++◌, length}
use Rattle.ncc_lines.specs.Words.{name_text}
use Rattle.ncc_lines.proofs.escape.push_text.Given as goal

abbrev pub invariant-loop-first : goal.invariant-loop-first
invariant-loop-first l = l.out.items ++ name_text l.rest ≡ l.fn.out.items ++ name_text l.name

abbrev pub decreases-loop-first : goal.decreases-loop-first
decreases-loop-first l = length l.rest
