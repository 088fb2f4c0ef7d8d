use Rattle.std.proofs.Common.{◌≡◌, ◌++◌, take}
use Rattle.std.specs.List.{flat_map}
use Rattle.ncc_picture.specs.Variables.{shared_in_file}
use Rattle.ncc_picture.proofs.variables.push_all_shared_in_file.Given as goal

abbrev pub invariant-loop-part : goal.invariant-loop-part
invariant-loop-part l = l.out.items ≡ l.fn.out.items ++ flat_map (shared_in_file l.schema l.far l.has_records) (take l.part-index l.parts)
