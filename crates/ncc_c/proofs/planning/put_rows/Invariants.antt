use Rattle.std.proofs.Common.{◌≡◌, map, take, length}
use Rattle.ncc_c.specs.Planning.{place_row}
use Rattle.ncc_c.proofs.planning.put_rows.Given as goal

abbrev pub invariant-loop-k : goal.invariant-loop-k
invariant-loop-k l = record {
  long : length l.out ≡ length l.fn.out;
  put : take l.k l.out ≡ take l.k (map place_row l.vars);
}
