use Rattle.std.proofs.Common.{◌≡◌, ◌+◌, ◌++◌, drop, take, length}
use Rattle.ncc_c.specs.Rows.{id_count, ids_of_vars}
use Rattle.ncc_c.proofs.rows.put_ids_of_vars.Given as goal

abbrev pub invariant-loop-k : goal.invariant-loop-k
invariant-loop-k l = record {
  long : l.first + id_count (drop l.k l.vars) ≡ length l.fn.out;
  put : take l.first l.out ++ ids_of_vars (drop l.k l.vars) ≡ ids_of_vars l.vars;
}
