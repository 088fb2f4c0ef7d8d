-- What the tests' routine leaves: bytes that grow by a piece, and then by its count.
use Rattle.std.specs.Prelude.{◌≡◌, ◌⊎◌, ℕ, List, ◌++◌, length, take}
use Rattle.ncc_store.specs.Store.{written}

-- the old bytes stand, with any bytes after them
abbrev pub Stands : (old new : List ℕ) → Type 0
Stands old new = take (length old) new ≡ old

-- all of a short piece or nothing
abbrev pub IsOldOrWritten : (old : List ℕ) → (place : ℕ) → (piece new : List ℕ) → Type 0
IsOldOrWritten old place piece new = (new ≡ old) ⊎ (new ≡ written old place piece)

-- the old bytes stand with the old count, or all is there with the new one
abbrev pub IsOldOrGrown : (old more : List ℕ) → (place : ℕ) → (count new : List ℕ) → Type 0
IsOldOrGrown old more place count new = Stands old new ⊎ (new ≡ written (old ++ more) place count)
