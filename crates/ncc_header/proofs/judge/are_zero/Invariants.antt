use Rattle.std.proofs.Common.{◌≡◌, drop}
use Rattle.ncc_header.specs.Marks.{all_zero}
use Rattle.ncc_header.proofs.judge.are_zero.Given as goal

abbrev pub invariant-loop-byte : goal.invariant-loop-byte
invariant-loop-byte l = all_zero (drop l.byte-index l.bytes) ≡ all_zero l.bytes
