use Rattle.std.proofs.Common.{◌≡◌, ◌++◌, take}
use Rattle.std.specs.List.{flat_map}
use Rattle.ncc_picture.specs.RecordBar.{shared_in_record}
use Rattle.ncc_picture.proofs.record_bar.push_all_shared_in_record.Given as goal

abbrev pub invariant-loop-part : goal.invariant-loop-part
invariant-loop-part l = l.out.items ≡ l.fn.out.items ++ flat_map (shared_in_record l.schema l.far l.from) (take l.part-index l.parts)
