use Rattle.std.proofs.Common.{arith}
use Rattle.ncc_layout.proofs.Indexing.{inside_length, horner_fits}
use Rattle.ncc_layout.proofs.element.row_major.Goals as goal

pub loop-k-init : goal.loop-k-init
loop-k-init c = record {
  long = inside_length c.args.lengths.now c.args.index.now c.requires.inside;
  inside = c.requires.inside;
  so_far = omega arith;
}

pub overflow_mul-number : goal.overflow_mul-number
overflow_mul-number c =
    let h = horner_fits c.args.lengths.now c.args.index.now c.loop-k.k (omega (arith, c.loop-k.invariant.long, c.loop-k-test.true)) c.loop-k-test.true c.loop-k.number _ c.loop-k.invariant.inside c.loop-k.invariant.so_far in
    omega (arith, h, c.requires.fits)

pub overflow_add-number : goal.overflow_add-number
overflow_add-number c =
    let h = horner_fits c.args.lengths.now c.args.index.now c.loop-k.k (omega (arith, c.loop-k.invariant.long, c.loop-k-test.true)) c.loop-k-test.true c.loop-k.number _ c.loop-k.invariant.inside c.loop-k.invariant.so_far in
    omega (arith, h, c.requires.fits)
