use Rattle.std.proofs.Common.{◌≡◌, ◌++◌, take}
use Rattle.std.specs.List.{flat_map}
use Rattle.ncc_picture.specs.Variables.{own_in_file}
use Rattle.ncc_picture.proofs.variables.push_owns_in_file.Given as goal

abbrev pub invariant-loop-part : goal.invariant-loop-part
invariant-loop-part l = l.out.items ≡ l.fn.out.items ++ flat_map (own_in_file l.schema l.far) (take l.part-index l.parts)
