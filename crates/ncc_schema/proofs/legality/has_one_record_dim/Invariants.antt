use Rattle.std.proofs.Common.{◌≡◌, ◌+◌, drop}
use Rattle.std.specs.Prelude.{if◌then◌else◌}
use Rattle.ncc_schema.specs.Schema.{record_dims}
use Rattle.ncc_schema.proofs.legality.has_one_record_dim.Given as goal

abbrev pub invariant-loop-dim : goal.invariant-loop-dim
invariant-loop-dim l = (if l.seen then 1 else 0) + record_dims (drop l.dim-index l.dims) ≡ record_dims l.dims
