use Rattle.std.proofs.Common.{◌≡◌, ◌-◌, ◌<◌, ◌++◌, ◌∷◌, [], length, take, get_or, ap, sym, subst, ◌∙◌, arith}
use Rattle.std.specs.Prelude.{if◌then◌else◌}
use Rattle.std.proofs.lemmas.List.{get_or-map}
use Rattle.ncc_schema.specs.Schema.{is_record_var}
use Rattle.ncc_layout.specs.Sizes.{rounded}
use Rattle.ncc_layout.specs.Standard.{vsize_word}
use Rattle.ncc_layout.specs.Plans.{AreEnds}
use Rattle.ncc_layout.proofs.StandardPlaces.{with_it, place_is, field_is, places_more, fields_more}
use Rattle.ncc_layout.proofs.planning.placed.Goals as goal

pub loop-number-preserved : goal.loop-number-preserved
loop-number-preserved c =
    let s = c.args.schema.now in
    let n = c.loop-number.number in
    let x = c.index-vars-number.result in
    let ends = c.loop-number.ends in
    let next = c.with_var-ends.result in
    let fits = c.requires.fits.1 in
    let there : n < length s.vars = omega (arith, ap length c.as_slice-vars.ensures) in
    let is : x ≡ get_or s.vars n x = rw c.as_slice-vars.ensures at c.index-vars-number.is in
    let size : get_or c.args.sizes.now n 0 ≡ rounded s.dims x = ap (λ l. get_or l n 0) c.requires.sizes ∙ get_or-map (rounded s.dims) s.vars n x 0 there ∙ ap (rounded s.dims) (sym is) in
    let word : c.vsize_word.result ≡ vsize_word s.version (rounded s.dims x) = c.vsize_word.ensures ∙ ap (vsize_word s.version) size in
    let begin : c.begin_of-begin.result ≡ (if is_record_var s.dims x then ends.slabs else ends.fixed) = rw c.as_slice-dims.ensures at c.begin_of-begin.ensures in
    let are_ends : AreEnds s (take n s.vars) ends = rw c.as_slice-vars.ensures at c.loop-number.invariant.ends in
    let are_next : AreEnds s (take n s.vars ++ x ∷ []) next = c.with_var-ends.ensures (take n s.vars) are_ends in
    let place = place_is s _ fits n x there is ends are_ends _ _ word begin in
    let field = ap (λ w. next.header - w) c.offset_width-width.ensures ∙ field_is s _ fits n x there is next are_next in
    rw c.as_slice-vars.ensures
    (record {
      places = places_more s _ fits n x there is _ _ _ (rw c.as_slice-vars.ensures at c.loop-number.invariant.places) c.in_ok-push.ensures.items place;
      fields = fields_more s _ fits n x there is _ _ _ (rw c.as_slice-vars.ensures at c.loop-number.invariant.fields) c.in_ok-push.ensures.items field;
      ends = subst (λ xs. AreEnds s xs next) (sym (with_it s _ fits n x there is)) are_next;
    })
