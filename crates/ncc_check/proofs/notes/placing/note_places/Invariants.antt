use Rattle.std.proofs.Common.{Bool}
use Rattle.ncc_check.specs.Noting.{Adds, Below, IsGreatest, PlaceNotesAt, greatest_of, kinds_of}
use Rattle.ncc_check.proofs.notes.placing.note_places.Given as goal

abbrev pub invariant-loop-i : goal.invariant-loop-i
invariant-loop-i l = record {
  found : Adds (Below (PlaceNotesAt l.header.schema.version (kinds_of l.header.schema) l.rounded l.header.places) l.i) l.fn.notes.items l.notes.items;
  greatest : (kind : Bool) → IsGreatest (kinds_of l.header.schema) l.header.places l.i kind (greatest_of l.greatest kind);
}
