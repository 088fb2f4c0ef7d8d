use Rattle.std.proofs.Common.{take}
use Rattle.ncc_values.specs.Numbers.{IsBytes}
use Rattle.ncc_write.proofs.putting.are_bytes.Given as goal

abbrev pub invariant-loop-byte : goal.invariant-loop-byte
invariant-loop-byte l = IsBytes (take l.byte-index l.bytes)
