use Rattle.std.proofs.Common.{◌≡◌, ◌∙◌, ◌<◌, true, false, length, get_or, ap, sym, subst, arith}
use Rattle.std.specs.Prelude.{slice_get, Some}
use Rattle.std.proofs.lemmas.List.{get_or-map}
use Rattle.ncc_schema.specs.declared.schema.VarPlace.{VarPlace}
use Rattle.ncc_check.specs.Noting.{PlaceNotesAt, IsGreatest, begins_of, kinds_of}
use Rattle.ncc_check.proofs.Joining.{none_below}
use Rattle.ncc_check.proofs.Places.{one_more_place, with_one, kind_at, none_both}
use Rattle.ncc_check.proofs.notes.placing.note_places.Goals as goal

pub loop-i-init : goal.loop-i-init
loop-i-init c =
    let s = c.args.header.now.schema in
    record {
      found = none_below (PlaceNotesAt s.version (kinds_of s) c.as_slice-rounded.result.now c.args.header.now.places) c.args.notes.now.items;
      greatest = none_both (kinds_of s) c.args.header.now.places;
    }

pub loop-i-preserved : goal.loop-i-preserved
loop-i-preserved c =
    let s = c.args.header.now.schema in
    let places = c.args.header.now.places in
    let i = c.loop-i.i in
    let d : VarPlace = record { vsize = 0; begin = 0; begin_at = 0 } in
    let kind = c.is_record_var-is_record.result in
    let below : i < length places = rw c.as_slice-places.ensures at c.loop-i-test.true in
    let here : slice_get (kinds_of s) i ≡ Some kind =
    kind_at s i c.index-vars-i.result kind (omega (arith, below, c.requires.number)) (rw c.as_slice-vars.ensures at c.index-vars-i.is) (rw c.as_slice-dims.ensures at c.is_record_var-is_record.ensures) in
    let begin : get_or (begins_of places) i 0 ≡ (get_or c.as_slice-places.result.now i d).begin =
    get_or-map (λ (y : VarPlace). y.begin) places i d 0 below ∙ ap (λ ps. (get_or ps i d).begin) (sym c.as_slice-places.ensures) in
    let greatest : IsGreatest (kinds_of s) places i kind c.greatest_of-before.result =
    subst (IsGreatest (kinds_of s) places i kind) (sym c.greatest_of-before.ensures) (c.loop-i.invariant.greatest kind) in
    record {
      found =
          one_more_place s.version (kinds_of s) c.as_slice-rounded.result.now places i d kind c.greatest_of-before.result c.args.notes.now.items c.loop-i.notes.items c.note_place.new.notes.items
          below here greatest c.loop-i.invariant.found (rw c.as_slice-places.ensures at c.in_ok-note_place.ensures);
      greatest =
          with_one (kinds_of s) places i kind c.loop-i.greatest.fixed c.loop-i.greatest.records c.with_begin-greatest.result.fixed c.with_begin-greatest.result.records (get_or c.as_slice-places.result.now i d).begin
          here begin c.with_begin-greatest.ensures.fixed c.with_begin-greatest.ensures.records (c.loop-i.invariant.greatest false) (c.loop-i.invariant.greatest true);
    }
