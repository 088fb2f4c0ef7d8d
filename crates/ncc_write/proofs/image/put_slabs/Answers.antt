use Rattle.std.proofs.Common.{◌≡◌, ◌+◌, ◌<◌, true, false, List, ◌∷◌, ◌++◌, length, take, drop, get_or, refl, ap, sym, subst, ◌∙◌, arith}
use Rattle.std.specs.Prelude.{sum_by}
use Rattle.std.specs.List.{AllByRecursion}
use Rattle.std.proofs.lemmas.List.Sums.{sum_by-cons}
use Rattle.ncc_values.specs.declared.values.Values.{Values}
use Rattle.ncc_schema.specs.declared.schema.Var.{Var}
use Rattle.ncc_schema.specs.Schema.{is_record_var, LegalVar}
use Rattle.ncc_layout.specs.Sizes.{record_vars}
use Rattle.ncc_build.specs.Dataset.{AreSlabsOf, IsSlabOf}
use Rattle.ncc_write.specs.Holds.{no_slab}
use Rattle.ncc_write.specs.Records.{whole_size, bytes_of_record, in_turn}
use Rattle.ncc_write.specs.VarSlabs.{no_var}
use Rattle.ncc_write.proofs.FileLengths.{one_record_is}
use Rattle.ncc_write.proofs.RecordParts.{at_number, bytes_more, first_slab, more_vars, same_item}
use Rattle.ncc_write.proofs.image.put_slabs.Goals as goal
use Rattle.ncc_write.proofs.image.put_slabs.Goals.{then-is_record_var, else-is_record_var}

pub loop-number-init : goal.loop-number-init
loop-number-init c = record {
  bytes = refl;
  room = omega (arith, one_record_is c.args.schema.now, c.requires.room);
  fits = c.requires.fits;
  below = omega arith;
  legal = c.requires.sizes.sound.vars;
}

pub put_slab_of-end-requires-clause-fits : goal.put_slab_of-end-requires-clause-fits
put_slab_of-end-requires-clause-fits c =
    let s = c.args.schema.now in
    let n = c.loop-number.number in
    let done = c.loop-number.done in
    let x = get_or s.vars n no_var in
    let below : n < length s.vars = rw c.as_slice-vars.ensures at c.loop-number-test.true in
    let is = same_item s.vars n no_var c.index-vars-number.result below (rw c.as_slice-vars.ensures at c.index-vars-number.is) in
    let kind : is_record_var s.dims x ≡ true = ap (is_record_var s.dims) is ∙ sym (rw c.as_slice.ensures at c.is_record_var.ensures) ∙ c.if-is_record_var.true in
    let first = first_slab s.dims x (record_vars s.dims (drop (n + 1) s.vars)) c.args.slabs.now done
    (subst (λ (l : List Var). AreSlabsOf s.dims l (drop done c.args.slabs.now)) (more_vars s n true below kind) c.loop-number.invariant.fits) in
    subst (IsSlabOf s.dims x) (same_item c.args.slabs.now done no_slab c.index-slabs-done.result first.there c.index-slabs-done.is) first.slab_is

pub loop-number-preserved : goal.loop-number-preserved
loop-number-preserved c =
    let s = c.args.schema.now in
    let n = c.loop-number.number in
    let done = c.loop-number.done in
    let at = c.loop-number.invariant in
    let x = get_or s.vars n no_var in
    let rest = record_vars s.dims (drop (n + 1) s.vars) in
    let below : n < length s.vars = rw c.as_slice-vars.ensures at c.loop-number-test.true in
    let is = same_item s.vars n no_var c.index-vars-number.result below (rw c.as_slice-vars.ensures at c.index-vars-number.is) in
    let kind : is_record_var s.dims x ≡ c.is_record_var.result = ap (is_record_var s.dims) is ∙ sym (rw c.as_slice.ensures at c.is_record_var.ensures) in
    let legal : AllByRecursion (LegalVar s.version s.dims) (drop (n + 1) s.vars) =
    (subst (AllByRecursion (LegalVar s.version s.dims)) (at_number s.vars n no_var below) at.legal).1 in
    elim c.if-is_record_var.branch [
      | then-is_record_var w ↦
          let vars = more_vars s n true below (kind ∙ w.if-is_record_var.true) in
          let first = first_slab s.dims x rest c.args.slabs.now done
          (subst (λ (l : List Var). AreSlabsOf s.dims l (drop done c.args.slabs.now)) vars at.fits) in
          let v_is = same_item c.args.slabs.now done no_slab w.index-slabs-done.result first.there w.index-slabs-done.is in
          let slabs : drop done c.args.slabs.now ≡ w.index-slabs-done.result ∷ drop (done + 1) c.args.slabs.now =
          at_number c.args.slabs.now done no_slab first.there
          ∙ ap (λ (v : Values). v ∷ drop (done + 1) c.args.slabs.now) v_is in
          rw w.image-is (rw w.done-is (rw w.end-is (record {
            bytes = bytes_more s (record_vars s.dims (drop n s.vars)) rest x (drop done c.args.slabs.now)
                (drop (done + 1) c.args.slabs.now) w.index-slabs-done.result (take c.loop-number.end c.loop-number.image)
                _ (bytes_of_record s c.args.slabs.now) vars slabs at.bytes w.put_slab_of-end.ensures.bytes;
            room = omega (
              arith,
              w.put_slab_of-end.ensures.end,
              w.put_slab_of-end.ensures.room,
              at.room,
              ap (sum_by (whole_size s)) vars,
              sum_by-cons (whole_size s) x rest,
            );
            fits = first.rest;
            below = omega (arith, at.below);
            legal = legal;
          })))
      | else-is_record_var w ↦
          let vars = more_vars s n false below (kind ∙ w.if-is_record_var.false) in
          rw w.image-is (rw w.done-is (rw w.end-is (record {
            bytes = subst (λ (l : List Var). take c.loop-number.end c.loop-number.image ++ in_turn s l (drop done c.args.slabs.now)
                ≡ bytes_of_record s c.args.slabs.now) vars at.bytes;
            room = omega (arith, at.room, ap (sum_by (whole_size s)) vars);
            fits = subst (λ (l : List Var). AreSlabsOf s.dims l (drop done c.args.slabs.now)) vars at.fits;
            below = omega (arith, at.below);
            legal = legal;
          })))
    ]
