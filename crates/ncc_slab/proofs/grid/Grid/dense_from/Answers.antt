use Rattle.std.proofs.Common.{◌≡◌, ◌+◌, ◌-◌, ℕ, drop, refl, sym, subst, arith}
use Rattle.ncc_slab.specs.Grids.{IsDense}
use Rattle.ncc_slab.proofs.Blocks.{dense_more}
use Rattle.ncc_slab.proofs.grid.Grid.dense_from.Goals as goal

pub loop-from-preserved : goal.loop-from-preserved
loop-from-preserved c =
    let at = c.loop-from.invariant in
    let axes = c.args.self.now.axes.items in
    let k = c.loop-from.from - 1 in
    let next : k + 1 ≡ c.loop-from.from = omega (arith, c.loop-from-test.true) in
    record {
      within = omega (arith, at.within);
      dense = λ lt. dense_more c.args.step axes k lt c.args.self.now.wide (c.if-adjoins.ensures refl).step_is (c.if-adjoins.ensures refl).last
          (λ more. subst (λ (m : ℕ). IsDense c.args.step (drop m axes)) (sym next) (at.dense (omega (arith, more, next))));
    }
