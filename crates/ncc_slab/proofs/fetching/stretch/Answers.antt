use Rattle.std.proofs.Common.{◌≡◌, ◌+◌, ◌-◌, ◌≤◌, ◌⊎◌, inl, inr, ap, ◌∙◌, arith}
use Rattle.std.proofs.Math.Nat.{add-mul}
use Rattle.ncc_slab.specs.Grids.{grid_place}
use Rattle.ncc_slab.proofs.Blocks.{run_behind, runs_adjoin}
use Rattle.ncc_slab.proofs.Ranges.{last_and_one}
use Rattle.ncc_slab.proofs.fetching.stretch.Goals as goal

pub overflow_mul-count : goal.overflow_mul-count
overflow_mul-count c =
    let last = c.loop-count.count - 1 in
    let end = c.requires.ends.2 (c.args.n + last) (omega arith) in
    let at = c.loop-count.invariant.adjoin last (omega arith) in
    let whole = last_and_one c.loop-count.count c.args.size c.loop-count.invariant.some in
    omega (arith, end, at, whole, c.requires.ends.1)

pub overflow_add-run : goal.overflow_add-run
overflow_add-run c =
    let last = c.loop-count.count - 1 in
    let end = c.requires.ends.2 (c.args.n + last) (omega arith) in
    let at = c.loop-count.invariant.adjoin last (omega arith) in
    let whole = last_and_one c.loop-count.count c.args.size c.loop-count.invariant.some in
    omega (arith, end, at, whole, c.requires.ends.1)

pub overflow_add-place : goal.overflow_add-place
overflow_add-place c =
    let next = c.run-next.ensures.run c.args.step c.requires.dense in
    let end = c.requires.ends.2 (c.args.n + c.loop-count.count + 1) (omega (arith, c.if-next-gt1.true, c.run-next.ensures.most, c.requires.there)) in
    omega (arith, end, next.even 1 c.if-next-gt1.true, c.requires.ends.1)

pub returns-then-next-gt1-clause-adjoin : goal.returns-then-next-gt1-clause-adjoin
returns-then-next-gt1-clause-adjoin c =
    let next = c.run-next.ensures.run c.args.step c.requires.dense in
    runs_adjoin (grid_place c.args.grid.now) c.args.n c.loop-count.count 1 c.args.run.place c.run-next.result.place c.args.step c.args.size
    c.loop-count.invariant.adjoin c.if-next-run.false (omega arith) (λ i below. next.even i (omega (arith, below, next.some))) (inr (omega arith))

pub returns-then-next-gt1-clause-longest : goal.returns-then-next-gt1-clause-longest
returns-then-next-gt1-clause-longest c =
    let next = c.run-next.ensures.run c.args.step c.requires.dense in
    inr (λ is.
    let same : c.args.n + (c.loop-count.count + 1) ≡ c.args.n + c.loop-count.count + 1 = omega arith in
    let one = add-mul c.loop-count.count 1 c.args.size in
    c.if-step-size.true (omega (arith, is, ap (grid_place c.args.grid.now) same, next.even 1 c.if-next-gt1.true, one, c.if-next-run.false)))

pub returns-then-next-gt1-clause-next : goal.returns-then-next-gt1-clause-next
returns-then-next-gt1-clause-next c = λ more.
    let next = c.run-next.ensures.run c.args.step c.requires.dense in
    let f = grid_place c.args.grid.now in
    let count = c.loop-count.count in
    record {
      some = omega (arith, c.if-next-gt1.true);
      even = λ i below.
          let same : c.args.n + (count + 1) + i ≡ c.args.n + count + 1 + i = omega arith in
          ap f same ∙ run_behind f (c.args.n + count) 1 c.run-next.result.count c.run-next.result.place c.args.step next.even i below ∙ omega arith;
    }

pub loop-count-preserved : goal.loop-count-preserved
loop-count-preserved c =
    let at = c.loop-count.invariant in
    let next = c.run-next.ensures.run c.args.step c.requires.dense in
    let each : (c.args.step ≡ c.args.size) ⊎ (c.run-next.result.count ≤ 1) = elim c.else-step-size.either [
      | inl not ↦ inr not.1
      | inr same ↦ inl same
    ] in
    record {
      some = omega (arith, at.some);
      within = omega (arith, c.run-next.ensures.most, c.loop-count-test.true);
      adjoin = runs_adjoin (grid_place c.args.grid.now) c.args.n c.loop-count.count c.run-next.result.count c.args.run.place c.run-next.result.place c.args.step c.args.size
          at.adjoin c.if-next-run.false next.some next.even each;
    }
