use Rattle.std.proofs.Common.{◌≡◌, length, take}
use Rattle.std.specs.List.{flat_map}
use Rattle.ncc_schema.specs.Header.{canon_dim}
use Rattle.ncc_schema.specs.Names.{capped}
use Rattle.ncc_schema.proofs.rules.dim.dims_size.Given as goal

abbrev pub invariant-loop-dim : goal.invariant-loop-dim
invariant-loop-dim l = l.size ≡ capped (length (flat_map (canon_dim l.version) (take l.dim-index l.dims)))
