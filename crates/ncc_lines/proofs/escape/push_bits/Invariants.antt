use Rattle.std.proofs.Common.{◌≡◌, ◌++◌, take}
use Rattle.std.specs.List.{flat_map}
use Rattle.ncc_lines.specs.Words.{byte_digits}
use Rattle.ncc_lines.proofs.escape.push_bits.Given as goal

abbrev pub invariant-loop-b : goal.invariant-loop-b
invariant-loop-b l = l.out.items ≡ l.fn.out.items ++ flat_map byte_digits (take l.b-index l.bytes)
