use Rattle.std.proofs.Common.{◌≡◌, ◌<◌, ◌≤◌, length, get_or, refl, sym, ap, ◌∙◌, arith}
use Rattle.std.specs.List.{flat_map}
use Rattle.std.specs.Prelude.{zip, slice_index_or}
use Rattle.std.proofs.lemmas.List.{drop_all, length-map}
use Rattle.ncc_schema.specs.declared.schema.Var.{Var}
use Rattle.ncc_schema.specs.declared.schema.VarPlace.{VarPlace}
use Rattle.ncc_schema.specs.Schema.{Place, place_of, places_of}
use Rattle.ncc_schema.specs.Header.{canon_head, canon_list, canon_var}
use Rattle.ncc_schema.proofs.Encoding.{length_placed, placed_at, place_at, item_sent, item_fails}
use Rattle.ncc_schema.proofs.Writing.{so_far_at_first, so_far_more, so_far_all, fails_at}
use Rattle.ncc_schema.proofs.rules.var.put_vars.Goals as goal

pub returns-in_err-put_head-clause-bytes : goal.returns-in_err-put_head-clause-bytes
returns-in_err-put_head-clause-bytes g c =
    let number : length c.as_slice-vars.result.now ≡ length (zip c.args.schema.now.vars (places_of c.args.places.now)) = ap length c.as_slice-vars.ensures ∙ sym (length_placed c.args.schema.now.vars (places_of c.args.places.now) c.requires.number) in
    fails_at _ _ _ _ _ _ c.in_err-put_head.field-0.0 c.from_residual.ensures.1 (rw number at c.in_err-put_head.ensures.bytes)

pub loop-i-init : goal.loop-i-init
loop-i-init g c =
    let v = c.args.schema.now.version in
    let placed = zip c.args.schema.now.vars (places_of c.args.places.now) in
    let number : length c.as_slice-vars.result.now ≡ length placed = ap length c.as_slice-vars.ensures ∙ sym (length_placed c.args.schema.now.vars (places_of c.args.places.now) c.requires.number) in
    record {
      so_far = so_far_more _ _ _ (canon_list v 11 (canon_var v) placed) _ (canon_head v 11 (length placed)) (flat_map (canon_var v) placed) (so_far_at_first _ (canon_list v 11 (canon_var v) placed)) refl (rw number at c.in_ok-put_head.ensures.bytes);
      count = c.in_ok-put_head.ensures.count;
    }

pub put_var-requires-clause-place : goal.put_var-requires-clause-place
put_var-requires-clause-place g c =
    place_at c.args.schema.now.version c.args.places.now c.loop-i.i _ (omega (arith, ap length c.as_slice-vars.ensures, c.requires.number, length-map c.args.places.now place_of)) c.requires.placed

pub returns-in_err-put_var-clause-bytes : goal.returns-in_err-put_var-clause-bytes
returns-in_err-put_var-clause-bytes g c =
    let v = c.args.schema.now.version in
    let vars = c.args.schema.now.vars in
    let places = c.args.places.now in
    let i = c.loop-i.i in
    let no_place : VarPlace = record { vsize = 0; begin = 0; begin_at = 0 } in
    let x : Var × Place = (c.index-vars-i.result, place_of (slice_index_or places i no_place)) in
    let within : i < length vars = omega (arith, ap length c.as_slice-vars.ensures) in
    let inside : i < length (zip vars (places_of places)) = omega (arith, within, length_placed vars (places_of places) c.requires.number) in
    let is : x ≡ get_or (zip vars (places_of places)) i x = placed_at vars places i c.index-vars-i.result no_place c.requires.number within (rw c.as_slice-vars.ensures at c.index-vars-i.is) in
    item_fails _ (canon_var v) (zip vars (places_of places)) i x x _ _ _ (canon_list v 11 (canon_var v) (zip vars (places_of places))) _ c.in_err-put_var.field-0.0
    inside is c.loop-i.invariant.so_far c.from_residual-in_err-put_var.ensures.1 c.in_err-put_var.ensures.bytes

pub loop-i-preserved : goal.loop-i-preserved
loop-i-preserved g c =
    let v = c.args.schema.now.version in
    let vars = c.args.schema.now.vars in
    let places = c.args.places.now in
    let i = c.loop-i.i in
    let no_place : VarPlace = record { vsize = 0; begin = 0; begin_at = 0 } in
    let x : Var × Place = (c.index-vars-i.result, place_of (slice_index_or places i no_place)) in
    let within : i < length vars = omega (arith, ap length c.as_slice-vars.ensures) in
    let inside : i < length (zip vars (places_of places)) = omega (arith, within, length_placed vars (places_of places) c.requires.number) in
    let is : x ≡ get_or (zip vars (places_of places)) i x = placed_at vars places i c.index-vars-i.result no_place c.requires.number within (rw c.as_slice-vars.ensures at c.index-vars-i.is) in
    record {
      so_far = item_sent (canon_var v) (zip vars (places_of places)) i x x _ _ _ (canon_list v 11 (canon_var v) (zip vars (places_of places))) inside is c.loop-i.invariant.so_far c.in_ok-put_var.ensures.bytes;
      count = c.in_ok-put_var.ensures.count ∙ c.loop-i.invariant.count;
    }

pub returns-clause-bytes : goal.returns-clause-bytes
returns-clause-bytes g c =
    let v = c.args.schema.now.version in
    let placed = zip c.args.schema.now.vars (places_of c.args.places.now) in
    let last : length placed ≤ c.loop-i.i = omega (arith, ap length c.as_slice-vars.ensures, length_placed c.args.schema.now.vars (places_of c.args.places.now) c.requires.number) in
    so_far_all _ _ (canon_list v 11 (canon_var v) placed) _ c.loop-i.invariant.so_far (ap (flat_map (canon_var v)) (drop_all c.loop-i.i placed last))
