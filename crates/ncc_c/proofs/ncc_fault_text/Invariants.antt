use Rattle.std.proofs.Common.{◌≡◌, take, drop, length}
use Rattle.ncc_c.proofs.ncc_fault_text.Given as goal

abbrev pub invariant-loop-k : goal.invariant-loop-k
invariant-loop-k l = record {
  long : length l.text ≡ length l.fn.text;
  rest : drop l.k l.text ≡ drop l.k l.fn.text;
  put : take l.k l.text ≡ take l.k l.name;
}
