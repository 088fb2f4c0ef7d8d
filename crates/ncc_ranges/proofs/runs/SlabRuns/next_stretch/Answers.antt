use Rattle.std.proofs.Common.{◌≡◌, ℕ, ◌+◌, ◌*◌, ◌<◌, ◌∙◌, inl, inr, subst, arith}
use Rattle.ncc_slab.specs.Grids.{grid_place}
use Rattle.ncc_ranges.proofs.RunPlaces.{run_is, stops_before}
use Rattle.ncc_ranges.proofs.runs.SlabRuns.next_stretch.Goals as goal

pub overflow_add-self-then-ahead-gt1 : goal.overflow_add-self-then-ahead-gt1
overflow_add-self-then-ahead-gt1 c =
    let s = c.args.self.now in
    let some : s.next < s.grid.count = omega (arith, c.if-left-eq0.false, c.count.ensures, s.within) in
    let within = s.ahead_within some in
    let fits = s.grid.fits (s.next + 1) (omega (arith, within, c.if-ahead-gt1.true)) in
    omega (arith, fits, (s.ahead_is some).even 1 c.if-ahead-gt1.true)

pub returns-then-ahead-gt1-clause-left : goal.returns-then-ahead-gt1-clause-left
returns-then-ahead-gt1-clause-left c =
    let s = c.args.self.now in
    let some : s.next < s.grid.count = omega (arith, c.if-left-eq0.false, c.count.ensures, s.within) in
    let is = s.ahead_is some in
    run_is (grid_place s.grid) s.next 1 s.grid.count s.ahead.place s.size (omega (arith, some)) (λ i lt.
    let first : 0 ≡ i = omega (arith, lt) in
    let none : s.ahead.place + 0 * s.step ≡ s.ahead.place + 0 * s.size = omega arith in
    subst (λ (k : ℕ). grid_place s.grid (s.next + k) ≡ s.ahead.place + k * s.size) first (is.even 0 is.some ∙ none))

pub returns-clause-left : goal.returns-clause-left
returns-clause-left c =
    let s = c.args.self.now in
    run_is (grid_place s.grid) s.next c.stretch-count.result.0 s.grid.count s.ahead.place s.size
    (omega (arith, c.stretch-count.ensures.most, c.count.ensures)) c.stretch-count.ensures.adjoin

pub returns-then-ahead-gt1-clause-longest : goal.returns-then-ahead-gt1-clause-longest
returns-then-ahead-gt1-clause-longest c =
    let s = c.args.self.now in
    let some : s.next < s.grid.count = omega (arith, c.if-left-eq0.false, c.count.ensures, s.within) in
    let even = (s.ahead_is some).even 1 c.if-ahead-gt1.true in
    stops_before (grid_place s.grid) (s.next + 1) _ s.size _ (λ left same.
    c.if-self.true (omega (arith, even, same)))

pub returns-clause-longest : goal.returns-clause-longest
returns-clause-longest c =
    let s = c.args.self.now in
    stops_before (grid_place s.grid) (s.next + c.stretch-count.result.0) _ s.size _ (λ left.
    elim c.stretch-count.ensures.longest [ inl all ↦ absurd (omega (arith, all, left, c.count.ensures)) | inr apart ↦ apart ])
