use Rattle.std.proofs.Common.{◌≡◌, ◌+◌, ◌++◌, drop, length}
use Rattle.std.specs.List.{flat_map}
use Rattle.ncc_schema.specs.Names.{canon_unplaced}
use Rattle.ncc_parts.specs.Parts.{ends_from, vars_from}
use Rattle.ncc_parts.proofs.pieces.push_vars.Given as goal

abbrev pub invariant-loop-k : goal.invariant-loop-k
invariant-loop-k l = record {
  at : l.at + length (flat_map (canon_unplaced l.version) (drop l.k l.vars)) ≡ l.start + length (flat_map (canon_unplaced l.version) l.vars);
  pieces : l.pieces.items ++ ends_from l.at (vars_from l.version l.k (drop l.k l.vars)) ≡ l.fn.pieces.items ++ ends_from l.start (vars_from l.version 0 l.vars);
}
