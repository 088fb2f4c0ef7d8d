use Rattle.std.proofs.Common.{◌≡◌, ◌+◌, ◌++◌, drop, length}
use Rattle.std.specs.List.{flat_map}
use Rattle.ncc_schema.specs.Header.{canon_dim}
use Rattle.ncc_parts.specs.Parts.{dims_from, ends_from}
use Rattle.ncc_parts.proofs.pieces.push_dims.Given as goal

abbrev pub invariant-loop-k : goal.invariant-loop-k
invariant-loop-k l = record {
  at : l.at + length (flat_map (canon_dim l.version) (drop l.k l.dims)) ≡ l.start + length (flat_map (canon_dim l.version) l.dims);
  pieces : l.pieces.items ++ ends_from l.at (dims_from l.version l.k (drop l.k l.dims)) ≡ l.fn.pieces.items ++ ends_from l.start (dims_from l.version 0 l.dims);
}
