use Rattle.std.proofs.Common.{◌+◌, ◌*◌, ◌/◌, ◌++◌, get_or, drop, ap, sym, ◌∙◌, arith}
use Rattle.ncc_slab.specs.Axes.{axes_of, inner_units, times}
use Rattle.ncc_slab.proofs.OneAxis.{next_unit, next_width, lengths_left, counts_left, offset_split, axis_skipped, axis_pushed, step_fits, rest_fits, start_fits}
use Rattle.ncc_slab.proofs.gridding.add_axes.Goals as goal
use Rattle.ncc_slab.proofs.gridding.add_axes.Goals.{then-count-k-ne1+in_ok-push, else-count-k-ne1}

pub overflow_mul-offset : goal.overflow_mul-offset
overflow_mul-offset c =
    let at = c.loop-k.invariant in
    let unit = next_unit c.args.size c.args.lengths.now c.args.start.now c.args.count.now c.args.stride.now c.requires.ranks c.loop-k.k c.loop-k-test.true at.lengths at.counts c.loop-k.unit at.unit in
    let offset = offset_split c.args.size c.args.lengths.now c.args.start.now c.args.count.now c.args.stride.now c.requires.ranks c.loop-k.k c.loop-k-test.true at.lengths at.counts in
    let first = start_fits (inner_units c.args.size c.args.lengths.now) c.args.start.now c.args.count.now c.args.stride.now (c.requires.ranks.counts ∙ sym c.requires.ranks.starts) (c.requires.ranks.strides ∙ sym c.requires.ranks.starts) in
    let same = ap (λ (u : _). get_or c.args.start.now c.loop-k.k 0 * u) unit in
    omega (arith, same, offset, at.offset, first, c.requires.last)

pub overflow_add-offset : goal.overflow_add-offset
overflow_add-offset c =
    let at = c.loop-k.invariant in
    let unit = next_unit c.args.size c.args.lengths.now c.args.start.now c.args.count.now c.args.stride.now c.requires.ranks c.loop-k.k c.loop-k-test.true at.lengths at.counts c.loop-k.unit at.unit in
    let offset = offset_split c.args.size c.args.lengths.now c.args.start.now c.args.count.now c.args.stride.now c.requires.ranks c.loop-k.k c.loop-k-test.true at.lengths at.counts in
    let first = start_fits (inner_units c.args.size c.args.lengths.now) c.args.start.now c.args.count.now c.args.stride.now (c.requires.ranks.counts ∙ sym c.requires.ranks.starts) (c.requires.ranks.strides ∙ sym c.requires.ranks.starts) in
    let same = ap (λ (u : _). get_or c.args.start.now c.loop-k.k 0 * u) unit in
    omega (arith, same, offset, at.offset, first, c.requires.last)

pub overflow_mul-stride : goal.overflow_mul-stride
overflow_mul-stride c =
    let at = c.loop-k.invariant in
    let unit = next_unit c.args.size c.args.lengths.now c.args.start.now c.args.count.now c.args.stride.now c.requires.ranks c.loop-k.k c.loop-k-test.true at.lengths at.counts c.loop-k.unit at.unit in
    let step = step_fits c.args.size c.args.lengths.now c.args.start.now c.args.count.now c.args.stride.now c.requires.ranks c.loop-k.k c.loop-k-test.true at.lengths at.counts c.if-count-k-ne1.true in
    let same = ap (λ (u : _). get_or c.args.stride.now c.loop-k.k 0 * u) unit in
    omega (arith, same, step, at.last)

pub loop-k-preserved : goal.loop-k-preserved
loop-k-preserved c =
    let at = c.loop-k.invariant in
    let ls = c.args.lengths.now in
    let ss = c.args.start.now in
    let cs = c.args.count.now in
    let ds = c.args.stride.now in
    let k = c.loop-k.k in
    let unit = next_unit c.args.size ls ss cs ds c.requires.ranks k c.loop-k-test.true at.lengths at.counts c.loop-k.unit at.unit in
    let width = next_width c.args.size ls ss cs ds c.requires.ranks k c.loop-k-test.true at.lengths at.counts c.loop-k.width at.width in
    let offset = offset_split c.args.size ls ss cs ds c.requires.ranks k c.loop-k-test.true at.lengths at.counts in
    let same = ap (λ (u : _). get_or ss k 0 * u) unit in
    record {
      unit = unit;
      width = width;
      offset = omega (arith, same, offset, at.offset);
      axes = elim c.if-count-k-ne1.branch [
        | then-count-k-ne1+in_ok-push w ↦
            axis_pushed c.args.size ls ss cs ds c.requires.ranks k c.loop-k-test.true at.lengths at.counts c.loop-k.axes.items c.if-count-k-ne1.axes.items
            (c.loop-k.unit / get_or ls k 0) (c.loop-k.width / get_or cs k 0) unit width (ap (λ (v : _). v.items) w.axes-is ∙ w.in_ok-push.ensures.items) w.if-count-k-ne1.true
            ∙ at.axes
        | else-count-k-ne1 w ↦
            ap (λ (v : _). v.items ++ axes_of (drop (k + 1) cs) (times (inner_units c.args.size (drop (k + 1) ls)) (drop (k + 1) ds))) w.axes-is
            ∙ axis_skipped c.args.size ls ss cs ds c.requires.ranks k c.loop-k-test.true at.lengths at.counts c.loop-k.axes.items w.if-count-k-ne1.false
            ∙ at.axes
      ];
      lengths = lengths_left c.args.size ls ss cs ds c.requires.ranks k c.loop-k-test.true at.lengths at.counts;
      counts = counts_left c.args.size ls ss cs ds c.requires.ranks k c.loop-k-test.true at.lengths at.counts;
      last = omega (arith, at.last, rest_fits c.args.size ls ss cs ds c.requires.ranks k c.loop-k-test.true at.lengths at.counts);
    }
