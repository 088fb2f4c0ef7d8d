use Rattle.std.proofs.Common.{◌≡◌, ◌+◌}
use Rattle.ncc_schema.specs.Names.{before, canon_unplaced, capped}
use Rattle.ncc_check.specs.Noting.{Adds, AttrNotesAt, Below, offsets_from}
use Rattle.ncc_check.proofs.notes.naming.note_attrs_of_vars.Given as goal

abbrev pub invariant-loop-var : goal.invariant-loop-var
invariant-loop-var l = record {
  stands : l.at ≡ capped (l.start + before (canon_unplaced l.version) l.var-index l.vars);
  found : Adds (Below (AttrNotesAt l.version l.vars (offsets_from (canon_unplaced l.version) l.start l.vars)) l.var-index) l.fn.notes.items l.notes.items;
}
