use Rattle.std.proofs.Common.{◌+◌, ◌/◌, ◌++◌, get_or, drop, ap, ◌∙◌}
use Rattle.ncc_slab.specs.Axes.{axes_of}
use Rattle.ncc_ranges.proofs.AxesBySteps.{axis_pushed, axis_skipped, counts_left, next_width}
use Rattle.ncc_ranges.proofs.runs.axes_by.Goals as goal
use Rattle.ncc_ranges.proofs.runs.axes_by.Goals.{then-count-k-ne1+in_ok-push, else-count-k-ne1}

pub loop-k-preserved : goal.loop-k-preserved
loop-k-preserved c =
    let at = c.loop-k.invariant in
    let cs = c.args.count.now in
    let ds = c.args.steps.now in
    let k = c.loop-k.k in
    let width = next_width cs ds c.requires.ranks k c.loop-k-test.true at.counts c.loop-k.width at.width in
    record {
      width = width;
      axes = elim c.if-count-k-ne1.branch [
        | then-count-k-ne1+in_ok-push w ↦
            axis_pushed cs ds c.requires.ranks k c.loop-k-test.true at.counts c.loop-k.axes.items c.if-count-k-ne1.axes.items (c.loop-k.width / get_or cs k 0) width
            (ap (λ (v : _). v.items) w.axes-is ∙ w.in_ok-push.ensures.items) w.if-count-k-ne1.true
            ∙ at.axes
        | else-count-k-ne1 w ↦
            ap (λ (v : _). v.items ++ axes_of (drop (k + 1) cs) (drop (k + 1) ds)) w.axes-is
            ∙ axis_skipped cs ds c.requires.ranks k c.loop-k-test.true at.counts c.loop-k.axes.items w.if-count-k-ne1.false
            ∙ at.axes
      ];
      counts = counts_left cs ds c.requires.ranks k c.loop-k-test.true at.counts;
    }
