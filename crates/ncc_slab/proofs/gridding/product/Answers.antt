use Rattle.std.proofs.Common.{arith}
use Rattle.ncc_layout.specs.Sizes.{product}
use Rattle.ncc_slab.proofs.Factors.{split, factor_fits, factor_goes_on, factors_done}
use Rattle.ncc_slab.proofs.gridding.product.Goals as goal

pub overflow_mul-product : goal.overflow_mul-product
overflow_mul-product c =
    let xs = c.args.numbers.now in
    let fits = factor_fits xs c.loop-k.k c.loop-k-test.true c.loop-k.invariant.positive c.loop-k.product (product xs) c.loop-k.invariant.whole in
    omega (arith, fits, c.requires.fits)

pub loop-k-preserved : goal.loop-k-preserved
loop-k-preserved c =
    let xs = c.args.numbers.now in
    record {
      whole = factor_goes_on xs c.loop-k.k c.loop-k-test.true c.loop-k.invariant.positive c.loop-k.product (product xs) c.loop-k.invariant.whole;
      positive = (split xs c.loop-k.k c.loop-k-test.true c.loop-k.invariant.positive).1;
    }

pub returns : goal.returns
returns c =
    let xs = c.args.numbers.now in
    factors_done xs c.loop-k.k c.loop-k.product (product xs) (omega arith) c.loop-k.invariant.whole
