use Rattle.std.proofs.Common.{◌≡◌, ◌+◌, ◌++◌, drop, take, length}
use Rattle.std.specs.List.{flat_map}
use Rattle.ncc_schema.specs.Header.{canon_attr}
use Rattle.ncc_c.specs.Rows.{attr_rows}
use Rattle.ncc_c.proofs.rows.put_attrs.Given as goal

abbrev pub invariant-loop-k : goal.invariant-loop-k
invariant-loop-k l = record {
  long : length l.rows ≡ length l.attrs;
  at : l.at + length (flat_map (canon_attr l.version) (drop l.k l.attrs)) ≡ l.start + length (flat_map (canon_attr l.version) l.attrs);
  rows : take l.k l.rows ++ attr_rows l.version l.at (drop l.k l.attrs) ≡ attr_rows l.version l.start l.attrs;
}
