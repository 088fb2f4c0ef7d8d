use Rattle.std.proofs.Common.{arith}
use Rattle.ncc_slab.proofs.Factors.{factor_fits, factor_goes_on, split}
use Rattle.ncc_ranges.proofs.products.product_times.Goals as goal

pub returns-in_err-product : goal.returns-in_err-product
returns-in_err-product c =
    let fits = factor_fits c.args.numbers.now c.loop-k.k c.loop-k-test.true c.loop-k.invariant.positive c.loop-k.product _ c.loop-k.invariant.whole in
    rw c.from_residual.ensures (omega (arith, fits, c.in_err-product.ensures))

pub loop-k-preserved : goal.loop-k-preserved
loop-k-preserved c =
    let on = factor_goes_on c.args.numbers.now c.loop-k.k c.loop-k-test.true c.loop-k.invariant.positive c.loop-k.product _ c.loop-k.invariant.whole in
    record {
      whole = rw c.in_ok-product.ensures.1 on;
      positive = (split c.args.numbers.now c.loop-k.k c.loop-k-test.true c.loop-k.invariant.positive).1;
    }
