use Rattle.std.proofs.Common.{◌≡◌, ◌++◌, drop}
use Rattle.ncc_places.specs.Words.{variable_lines}
use Rattle.ncc_places.proofs.lines.push_variables.Given as goal

abbrev pub invariant-loop-extent : goal.invariant-loop-extent
invariant-loop-extent l =
    l.out.items ++ variable_lines l.schema l.past (drop l.extent-index l.extents) ≡ l.fn.out.items ++ variable_lines l.schema l.header_length l.extents
