use Rattle.std.proofs.Common.{◌≡◌, ◌++◌, take}
use Rattle.ncc_picture.specs.Variables.{gaps}
use Rattle.ncc_picture.proofs.variables.push_gaps.Given as goal

abbrev pub invariant-loop-part : goal.invariant-loop-part
invariant-loop-part l = l.out.items ≡ l.fn.out.items ++ gaps l.schema l.far l.has_records (take l.part-index l.parts)
