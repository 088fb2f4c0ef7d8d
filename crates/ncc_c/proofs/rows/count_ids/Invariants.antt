use Rattle.std.proofs.Common.{◌≡◌, ◌+◌, drop}
use Rattle.ncc_c.specs.Rows.{id_count}
use Rattle.ncc_c.proofs.rows.count_ids.Given as goal

abbrev pub invariant-loop-k : goal.invariant-loop-k
invariant-loop-k l = l.count + id_count (drop l.k l.vars) ≡ id_count l.vars
