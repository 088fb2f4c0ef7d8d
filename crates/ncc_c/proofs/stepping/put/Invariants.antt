use Rattle.std.proofs.Common.{◌≡◌, take, length}
use Rattle.ncc_c.proofs.stepping.put.Given as goal

abbrev pub invariant-loop-k : goal.invariant-loop-k
invariant-loop-k l = record {
  long : length l.out ≡ length l.fn.out;
  put : take l.k l.out ≡ take l.k l.steps;
}
