-- How many calls a check takes.
use Rattle.std.proofs.Common.{inl, inr, ℕ, ◌+◌, ◌≤◌, List, length, arith}
use Rattle.ncc_check.specs.FromStore.{SettledBy, calls_for}
use Rattle.ncc_answers.specs.Answers.{ChecksBy}

-- by the limit, or by the reads that settle it
pub checked_by : (old new : ℕ) (bytes : List ℕ) (limit calls : ℕ) → new ≤ old + calls_for (length bytes) limit
    → ((reads : ℕ) → SettledBy bytes limit reads → new ≤ old + 1 + reads) → ChecksBy bytes limit calls → new ≤ old + calls
checked_by old new bytes limit calls most settled (inl is) = omega (arith, most, is)
checked_by old new bytes limit calls most settled (inr (reads, by, is)) = omega (arith, settled reads by, is)
