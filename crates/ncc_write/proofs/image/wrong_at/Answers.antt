use Rattle.std.proofs.Common.{◌<◌, ◌≤◌, length, drop, ap, sym, ◌∙◌, arith}
use Rattle.std.proofs.Math.ListN.{drop_of_length-le}
use Rattle.ncc_layout.specs.Sizes.{record_vars, slab}
use Rattle.ncc_write.specs.VarSlabs.{no_var}
use Rattle.ncc_write.proofs.RecordParts.{same_item, slab_of_sizes, wrong_past}
use Rattle.ncc_write.proofs.image.wrong_at.Goals as goal

pub fits_slab-requires : goal.fits_slab-requires
fits_slab-requires c =
    let s = c.args.schema.now in
    let n = c.loop-number.number in
    let there : n < length s.vars = rw c.as_slice-vars.ensures at c.loop-number-test.true in
    let is = same_item s.vars n no_var c.index-vars-number.result there (rw c.as_slice-vars.ensures at c.index-vars-number.is) in
    record {
      bytes = c.slab.ensures ∙ slab_of_sizes s c.args.placed.now c.requires.sizes n there ∙ ap (slab s.dims) is;
    }

pub returns-then-done-slabs-2 : goal.returns-then-done-slabs-2
returns-then-done-slabs-2 c =
    let s = c.args.schema.now in
    let end : length s.vars ≤ c.loop-number.number =
    omega (arith, c.loop-number-test.false, ap length c.as_slice-vars.ensures) in
    sym (wrong_past s.dims (record_vars s.dims (drop c.loop-number.number s.vars)) c.args.slabs.now c.loop-number.done
    (ap (record_vars s.dims) (drop_of_length-le s.vars end)) c.if-done-slabs-2.true)
    ∙ c.loop-number.invariant.rest
