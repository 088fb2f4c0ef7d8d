use Rattle.std.proofs.Common.{◌+◌, ◌-◌, ◌*◌, ◌∙◌, inr, get_or, ap, arith}
use Rattle.ncc_slab.proofs.OneAxis.{next_unit, lengths_left, counts_left, offset_split, last_split}
use Rattle.ncc_ranges.proofs.Stepping.{fits_left, step_pushed}
use Rattle.ncc_ranges.proofs.steps.add_steps.Goals as goal

pub returns-in_default-clause-reach : goal.returns-in_default-clause-reach
returns-in_default-clause-reach c =
    let at = c.loop-k.invariant in
    let ls = c.args.lengths.now in
    let ss = c.args.start.now in
    let cs = c.args.count.now in
    let ds = c.args.stride.now in
    let k = c.loop-k.k in
    let unit = next_unit c.args.size ls ss cs ds c.requires.ranks k c.loop-k-test.true at.lengths at.counts c.loop-k.unit at.unit in
    let last = last_split c.args.size ls ss cs ds c.requires.ranks k c.loop-k-test.true at.lengths at.counts in
    let same = ap (λ (u : _). (get_or ss k 0 + (get_or cs k 0 - 1) * get_or ds k 0) * u) unit in
    inr (omega (arith, same, last, at.last, c.in_default.ensures))

pub loop-k-preserved : goal.loop-k-preserved
loop-k-preserved c =
    let at = c.loop-k.invariant in
    let ls = c.args.lengths.now in
    let ss = c.args.start.now in
    let cs = c.args.count.now in
    let ds = c.args.stride.now in
    let k = c.loop-k.k in
    let unit = next_unit c.args.size ls ss cs ds c.requires.ranks k c.loop-k-test.true at.lengths at.counts c.loop-k.unit at.unit in
    let last = last_split c.args.size ls ss cs ds c.requires.ranks k c.loop-k-test.true at.lengths at.counts in
    let first = offset_split c.args.size ls ss cs ds c.requires.ranks k c.loop-k-test.true at.lengths at.counts in
    let same = ap (λ (u : _). (get_or ss k 0 + (get_or cs k 0 - 1) * get_or ds k 0) * u) unit in
    let same_first = ap (λ (u : _). get_or ss k 0 * u) unit in
    record {
      unit = unit;
      first = omega (arith, same_first, first, at.first, c.in-Some.ensures.first);
      last = omega (arith, same, last, at.last, c.in-Some.ensures.last);
      steps = step_pushed c.args.size ls ss cs ds c.requires.ranks k c.loop-k-test.true _ _ c.in-Some.step _ unit c.in-Some.ensures.step c.in_ok-push.ensures ∙ at.steps;
      lengths = lengths_left c.args.size ls ss cs ds c.requires.ranks k c.loop-k-test.true at.lengths at.counts;
      counts = counts_left c.args.size ls ss cs ds c.requires.ranks k c.loop-k-test.true at.lengths at.counts;
      fits = fits_left c.args.size ls ss cs ds c.requires.ranks k c.loop-k-test.true at.fits;
    }
