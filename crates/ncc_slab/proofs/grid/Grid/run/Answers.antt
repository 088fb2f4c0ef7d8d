use Rattle.std.proofs.Common.{◌≡◌, ◌+◌, ◌%◌, ◌<◌, ℕ, length, get_or, drop, ap, subst, ◌∙◌, arith, mod-lt}
use Rattle.ncc_slab.specs.Axes.{no_axis}
use Rattle.ncc_slab.specs.Grids.{IsDense}
use Rattle.ncc_slab.proofs.Blocks.{offset_by, same_index_by, dense_goes_on}
use Rattle.ncc_slab.proofs.Whole.{any_default}
use Rattle.ncc_slab.proofs.grid.Grid.run.Goals as goal
use Rattle.ncc_slab.proofs.grid.Grid.run.Goals.{then-k-from, else-k-from}

pub loop-k-preserved : goal.loop-k-preserved
loop-k-preserved c =
    let at = c.loop-k.invariant in
    let axes = c.args.self.now.axes.items in
    let wide = c.args.self.now.wide in
    let k = c.loop-k.k in
    let from = c.in-Some.from in
    let axis = c.index.result.now in
    let rest = c.index_along-index.result.1 in
    let there : k < length axes = omega (arith, c.loop-k-test.true, c.len-k-end.ensures) in
    let is = c.index.ensures ∙ any_default axes k axis no_axis there in
    let width : axis.width ≡ (get_or axes k no_axis).width = ap (λ (a : _). a.width) is in
    let step : axis.step ≡ (get_or axes k no_axis).step = ap (λ (a : _). a.step) is in
    let left : rest ≡ c.loop-k.number % axis.width = c.index_along-index.ensures.1 in
    let short : rest < axis.width = omega (arith, left, width, mod-lt c.loop-k.number (wide k there), ap (λ (m : ℕ). c.loop-k.number % m) width) in
    let sum = offset_by 0 axes k there wide axis.width axis.step c.loop-k.number c.index_along-index.result.0 rest width step c.index_along-index.ensures.0 left in
    elim c.if-k-from.branch [
      | then-k-from w ↦ record {
        sum = omega (arith, at.sum, sum);
        fits = at.fits;
        some = omega (arith, w.count-is, w.min-count.ensures, at.some, short);
        within = omega (arith, w.count-is, w.min-count.ensures, at.within);
        same = λ before size i below goes_on.
            at.same (omega (arith, w.if-k-from)) size i (omega (arith, w.count-is, w.min-count.ensures, below))
            (same_index_by size axes k there wide axis.width c.loop-k.number i rest width left (omega (arith, w.count-is, w.min-count.ensures, below)) goes_on);
        even = λ all size dense i below.
            let next : from ≡ k + 1 = omega (arith, all, w.if-k-from) in
            at.same (omega (arith, w.if-k-from)) size i (omega (arith, w.count-is, w.min-count.ensures, below))
            (same_index_by size axes k there wide axis.width c.loop-k.number i rest width left (omega (arith, w.count-is, w.min-count.ensures, below))
            (dense_goes_on size (drop (k + 1) axes) (subst (λ (m : ℕ). IsDense size (drop m axes)) next dense.dense) rest i));
      }
      | else-k-from w ↦ record {
        sum = omega (arith, at.sum, sum);
        fits = at.fits;
        some = omega (arith, w.count-is, at.some);
        within = omega (arith, w.count-is, at.within);
        same = λ before size i below goes_on. absurd (omega (arith, before, w.if-k-from));
        even = λ all size dense i below. at.even (omega (arith, w.if-k-from)) size dense i (omega (arith, w.count-is, below));
      }
    ]
