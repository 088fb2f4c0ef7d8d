use Rattle.std.proofs.Common.{◌≡◌, ◌++◌, drop, map}
use Rattle.ncc_listed.proofs.numbers.put_all.Given as goal

abbrev pub invariant-loop-number : goal.invariant-loop-number
invariant-loop-number g l =
    (l.out.tokens ++ map (g.T.Listed.token l.style) (drop l.number-index l.numbers) ≡ l.fn.out.tokens ++ map (g.T.Listed.token l.style) l.numbers)
    × (l.out.before ≡ l.fn.out.before)
