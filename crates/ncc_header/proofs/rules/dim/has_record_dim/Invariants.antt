use Rattle.std.proofs.Common.{◌≡◌, drop}
use Rattle.std.specs.Prelude.{nat_lt}
use Rattle.ncc_schema.specs.Schema.{record_dims}
use Rattle.ncc_header.proofs.rules.dim.has_record_dim.Given as goal

abbrev pub invariant-loop-dim : goal.invariant-loop-dim
invariant-loop-dim l = nat_lt 0 (record_dims (drop l.dim-index l.dims)) ≡ nat_lt 0 (record_dims l.dims)
