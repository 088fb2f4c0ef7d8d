use Rattle.std.proofs.Common.{◌≡◌, ◌++◌, take}
use Rattle.ncc_picture.specs.Marks.{entities}
use Rattle.ncc_picture.proofs.marks.push_entities.Given as goal

abbrev pub invariant-loop-byte : goal.invariant-loop-byte
invariant-loop-byte l = l.out.items ≡ l.fn.out.items ++ entities (take l.byte-index l.text)
