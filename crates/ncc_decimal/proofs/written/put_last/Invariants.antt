use Rattle.std.proofs.Common.{◌≡◌, ◌-◌, ◌/◌, ◌^◌, ◌++◌, take, drop}
use Rattle.ncc_decimal.specs.Texts.{last_digits}
use Rattle.ncc_decimal.proofs.written.put_last.Given as goal

abbrev pub invariant-loop-i : goal.invariant-loop-i
invariant-loop-i l = record {
  text : drop (l.start - l.i) l.room ≡ last_digits l.i l.n ++ drop l.start l.fn.room;
  before : take (l.start - l.i) l.room ≡ take (l.start - l.i) l.fn.room;
  rest : l.rest ≡ l.n / 10 ^ l.i;
}
