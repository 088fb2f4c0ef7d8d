use Rattle.std.proofs.Common.{◌≡◌, ◌++◌, take}
use Rattle.ncc_picture.specs.Rows.{part_rows}
use Rattle.ncc_picture.proofs.rows.push_part_rows.Given as goal

abbrev pub invariant-loop-part : goal.invariant-loop-part
invariant-loop-part l = l.out.items ≡ l.fn.out.items ++ part_rows l.schema l.top (take l.part-index l.parts)
