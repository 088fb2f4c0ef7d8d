use Rattle.std.proofs.Common.{◌≡◌, ℕ, ◌<◌, get_or, map, []}
use Rattle.ncc_check.proofs.notes.pairs.is_among_earlier.Given as goal

abbrev pub invariant-loop-i : goal.invariant-loop-i
invariant-loop-i g l = (j : ℕ) → j < l.i → get_or (map g.T.Item.text l.items) j [] ≡ get_or (map g.T.Item.text l.items) l.number [] → ⊥
