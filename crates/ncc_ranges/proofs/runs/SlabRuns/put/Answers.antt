use Rattle.std.proofs.Common.{◌∙◌, subst, arith}
use Rattle.ncc_ranges.specs.Runs.{LeavesBehind, StopsBefore, runs_left, runs_size}
use Rattle.ncc_ranges.proofs.Longest.{one_more}
use Rattle.ncc_ranges.proofs.runs.SlabRuns.put.Goals as goal

pub loop-k-preserved : goal.loop-k-preserved
loop-k-preserved c =
    let old = runs_left c.loop-k.self in
    let new = runs_left c.next_stretch.new.self in
    let found = c.in-Some.found in
    let i = c.loop-k.invariant in
    let s = c.in-Some.ensures in
    let put = one_more (runs_size c.args.self.now) (runs_left c.args.self.now) old new found c.loop-k.out c.loop-k.k
    (omega (arith, c.loop-k-test.true, c.loop-k.auto.k-end, c.loop-k.auto.out))
    (subst (λ n. LeavesBehind n old new found) i.size s.left)
    (subst (λ n. StopsBefore n new found) i.size s.longest)
    s.none (record { some = i.some; longest = i.longest; places = i.left }) in
    record { size = s.size ∙ i.size; all = s.all ∙ i.all; some = put.some; longest = put.longest; left = put.places }
