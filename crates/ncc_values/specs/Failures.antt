-- How a device counts its failures.
use Rattle.std.specs.Prelude.{◌≡◌, ◌⊎◌, ℕ, ◌+◌, ◌<◌, ◌-◌, ◌^◌, min, Result, Ok, Err}

-- where a count of failures stays
abbrev pub last_count : ℕ
last_count = 2 ^ 64 - 1

-- the count of a device over another: its own failures and those below
abbrev pub joint_count : (own below : ℕ) → ℕ
joint_count own below = min last_count (own + below)

-- the count rose, or stands at its last value
abbrev pub Rose : (old new : ℕ) → Type 0
Rose old new = (old < new) ⊎ (new ≡ last_count)

-- each error is counted, and nothing else
abbrev pub Counts : {T E : Type 0} → (old new : ℕ) → Result T E → Type 0
Counts old new (Ok x) = new ≡ old
Counts old new (Err e) = Rose old new
