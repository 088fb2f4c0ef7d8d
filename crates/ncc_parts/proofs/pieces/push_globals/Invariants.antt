use Rattle.std.proofs.Common.{◌≡◌, ◌+◌, ◌++◌, drop, length}
use Rattle.std.specs.List.{flat_map}
use Rattle.ncc_schema.specs.Header.{canon_attr}
use Rattle.ncc_parts.specs.Parts.{ends_from, globals_from}
use Rattle.ncc_parts.proofs.pieces.push_globals.Given as goal

abbrev pub invariant-loop-k : goal.invariant-loop-k
invariant-loop-k l = record {
  at : l.at + length (flat_map (canon_attr l.version) (drop l.k l.attrs)) ≡ l.start + length (flat_map (canon_attr l.version) l.attrs);
  pieces : l.pieces.items ++ ends_from l.at (globals_from l.version l.k (drop l.k l.attrs)) ≡ l.fn.pieces.items ++ ends_from l.start (globals_from l.version 0 l.attrs);
}
