use Rattle.std.proofs.Common.{◌≡◌, ◌+◌, drop}
use Rattle.ncc_c.specs.Rows.{attr_count}
use Rattle.ncc_c.proofs.rows.count_attrs.Given as goal

abbrev pub invariant-loop-k : goal.invariant-loop-k
invariant-loop-k l = l.count + attr_count (drop l.k l.vars) ≡ attr_count l.vars
