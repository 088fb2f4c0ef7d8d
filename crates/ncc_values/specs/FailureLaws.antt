-- A law that implementations cite, which they can in specs/ alone.
use Rattle.std.proofs.Common.{ℕ, ◌≤◌, arith}
use Rattle.ncc_values.specs.Failures.{last_count, joint_count}

pub joint_count_ends : (own below : ℕ) → joint_count own below ≤ last_count
joint_count_ends own below = omega arith
