use Rattle.std.proofs.Common.{◌≡◌, ◌<◌, ◌^◌, [], length, arith, ◌⊎◌}
use Rattle.ncc_schema.specs.Header.{canon}
use Rattle.ncc_schema.specs.Schema.{places_of}
use Rattle.ncc_check.specs.Noting.{Adds, AttrNotesAt, Below, LargeCountNote, DimNotes, Found, GlobalNotes, MarkNote, PlaceNotesAt, VarNotes, kinds_of, var_offsets}
use Rattle.ncc_check.proofs.Joining.{both_join}
use Rattle.ncc_check.proofs.Whole.{are_notes}
use Rattle.ncc_check.proofs.notes.notes_of.Goals as goal

pub returns : goal.returns
returns c =
    let h = c.args.header.now in
    let s = h.schema in
    let sizes = c.args.sizes.now.rounded in
    let begun = c.requires.begun.2 in
    let legal = begun.is_header.legal in
    let long : h.length ≡ length (canon s (places_of h.places)) = c.length_is_canonical.ensures c.requires.begun.0 c.requires.begun.1 h begun in
    let small : h.length < 2 ^ 64 = omega arith in
    let v1 = c.note_marks.new.notes.items in
    let v2 = c.note_large_count.new.notes.items in
    let v3 = c.note_dims.new.notes.items in
    let v4 = c.note_globals.new.notes.items in
    let v5 = c.note_vars.new.notes.items in
    let v6 = c.note_places.new.notes.items in
    let attrs = Below (AttrNotesAt s.version s.vars (var_offsets s)) (length s.vars) in
    let places = Below (PlaceNotesAt s.version (kinds_of s) sizes h.places) (length h.places) in
    let marks = Below (MarkNote h.marks) (length h.marks) in
    let marked : Adds marks [] v1 = rw (c.as_slice.ensures, c.new-notes.ensures.items) at c.in_ok-note_marks.ensures in
    let counted : Adds (λ n. marks n ⊎ LargeCountNote s n) [] v2 = both_join marks (LargeCountNote s) [] v1 v2 marked c.in_ok-note_large_count.ensures in
    let named = both_join (DimNotes s) (GlobalNotes s) v2 v3 v4 c.in_ok-note_dims.ensures c.in_ok-note_globals.ensures in
    let placed = both_join (λ n. VarNotes s n ⊎ attrs n) places v4 v5 v6 c.in_ok-note_vars.ensures c.in_ok-note_places.ensures in
    let rest = both_join (λ n. DimNotes s n ⊎ GlobalNotes s n) (λ n. (VarNotes s n ⊎ attrs n) ⊎ places n) v2 v4 v6 named placed in
    let all : Adds (Found h sizes) [] v6 = both_join (λ n. marks n ⊎ LargeCountNote s n) (λ n. (DimNotes s n ⊎ GlobalNotes s n) ⊎ ((VarNotes s n ⊎ attrs n) ⊎ places n)) [] v2 v6 counted rest in
    are_notes h sizes legal long small c.requires.sizes.rounded c.name_is_there.ensures v6 c.in_order.result.items all c.in_order.ensures
