use Rattle.std.proofs.Common.{◌≡◌, ◌-◌, ◌++◌, take, drop, replicate}
use Rattle.ncc_decimal.proofs.written.put_zeros.Given as goal

abbrev pub invariant-loop-i : goal.invariant-loop-i
invariant-loop-i l = record {
  text : drop (l.start - l.i) l.room ≡ replicate l.i 48 ++ drop l.start l.fn.room;
  before : take (l.start - l.i) l.room ≡ take (l.start - l.i) l.fn.room;
}
