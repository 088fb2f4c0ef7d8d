use Rattle.std.proofs.Common.{arith}
use Rattle.ncc_slab.proofs.Factors.{zero_among, none_zero}
use Rattle.ncc_slab.proofs.gridding.are_positive.Goals as goal

pub returns : goal.returns
returns c = none_zero c.args.numbers.now (λ j lt. c.loop-k.invariant j (omega arith))

pub returns-then-numbers-k-eq0 : goal.returns-then-numbers-k-eq0
returns-then-numbers-k-eq0 c = zero_among c.args.numbers.now c.loop-k.k c.loop-k-test.true c.if-numbers-k-eq0.true
