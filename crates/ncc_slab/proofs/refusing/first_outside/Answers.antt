use Rattle.std.proofs.Common.{◌∙◌, sym}
use Rattle.ncc_slab.proofs.Searches.{goes_on}
use Rattle.ncc_slab.proofs.refusing.first_outside.Goals as goal

pub loop-k-preserved : goal.loop-k-preserved
loop-k-preserved c =
    goes_on c.args.lengths.now c.args.start.now c.args.count.now c.args.stride.now c.loop-k.k c.requires.starts c.requires.counts c.requires.strides c.loop-k-test.true
    (sym c.ends_past.ensures ∙ c.if-ends_past.false) ∙ c.loop-k.invariant
