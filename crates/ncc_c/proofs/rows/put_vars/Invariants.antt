use Rattle.std.proofs.Common.{◌≡◌, ◌+◌, ◌++◌, drop, take, length}
use Rattle.std.specs.List.{flat_map}
use Rattle.ncc_schema.specs.Names.{canon_unplaced}
use Rattle.ncc_c.specs.Rows.{attr_count, attrs_of_vars, var_rows}
use Rattle.ncc_c.proofs.rows.put_vars.Given as goal

abbrev pub invariant-loop-k : goal.invariant-loop-k
invariant-loop-k l = record {
  long : length l.rows ≡ length l.vars;
  attrs_long : l.first + attr_count (drop l.k l.vars) ≡ length l.fn.attr_rows;
  at : l.at + length (flat_map (canon_unplaced l.version) (drop l.k l.vars)) ≡ l.start + length (flat_map (canon_unplaced l.version) l.vars);
  rows : take l.k l.rows ++ var_rows l.version l.at (drop l.k l.vars) (drop l.k l.placed) ≡ var_rows l.version l.start l.vars l.placed;
  attrs : take l.first l.attr_rows ++ attrs_of_vars l.version l.at (drop l.k l.vars) ≡ attrs_of_vars l.version l.start l.vars;
}
