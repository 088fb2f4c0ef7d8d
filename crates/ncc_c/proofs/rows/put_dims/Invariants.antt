use Rattle.std.proofs.Common.{◌≡◌, ◌+◌, ◌++◌, drop, take, length}
use Rattle.std.specs.List.{flat_map}
use Rattle.ncc_schema.specs.Header.{canon_dim}
use Rattle.ncc_c.specs.Rows.{dim_rows}
use Rattle.ncc_c.proofs.rows.put_dims.Given as goal

abbrev pub invariant-loop-k : goal.invariant-loop-k
invariant-loop-k l = record {
  long : length l.rows ≡ length l.dims;
  at : l.at + length (flat_map (canon_dim l.version) (drop l.k l.dims)) ≡ l.start + length (flat_map (canon_dim l.version) l.dims);
  rows : take l.k l.rows ++ dim_rows l.version l.at (drop l.k l.dims) ≡ dim_rows l.version l.start l.dims;
}
