use Rattle.std.proofs.Common.{◌≡◌, ◌++◌, length}
use Rattle.ncc_lines.specs.Words.{name_text}
use Rattle.ncc_lines.proofs.escape.push_name.Given as goal

abbrev pub invariant-loop-rest : goal.invariant-loop-rest
invariant-loop-rest l = l.out.items ++ name_text l.rest ≡ l.fn.out.items ++ name_text l.name

abbrev pub decreases-loop-rest : goal.decreases-loop-rest
decreases-loop-rest l = length l.rest
