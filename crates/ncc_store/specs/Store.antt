-- What the calls of a store do to its bytes, and what a stop at any moment may leave of them.
use Rattle.std.specs.Prelude.{◌≡◌, ◌⊎◌, ℕ, ◌+◌, ◌≤◌, min, max, List, ◌++◌, length, take, drop}

-- ---- bytes

-- old with this piece at this place
abbrev pub written : (old : List ℕ) → (place : ℕ) → (piece : List ℕ) → List ℕ
written old place piece = take place old ++ piece ++ drop (place + length piece) old

-- a failed write has done a front of its piece, of one of at most 8 bytes all or none
pub record FrontWritten (old : List ℕ) (place : ℕ) (piece new : List ℕ) : Type 0 where
  pub done : ℕ
  pub within : done ≤ length piece
  pub is : new ≡ written old place (take done piece)
  pub whole : length piece ≤ 8 → (done ≡ 0) ⊎ (done ≡ length piece)

-- ---- images: the byte lists that a stop may leave

-- What a stop may make of old, where a write of this piece isn't synced: any bytes in its range and, where it
-- ends past the end, from the end on, and any length between. One of at most 8 bytes inside is done or not.
pub record Unsynced (place : ℕ) (piece old new : List ℕ) : Type 0 where
  pub before : take (min place (length old)) new ≡ take place old
  pub after : drop (place + length piece) new ≡ drop (place + length piece) old
  pub no_shorter : length old ≤ length new
  pub no_longer : length new ≤ max (length old) (place + length piece)
  pub whole : length piece ≤ 8 → place + length piece ≤ length old → (new ≡ old) ⊎ (new ≡ written old place piece)

-- what a stop may leave since a write of this piece began, where these were the images
abbrev pub AfterWrite : (place : ℕ) → (piece : List ℕ) → (images : List ℕ → Type 0) → List ℕ → Type 0
AfterWrite place piece images c = (d : List ℕ) × images d × Unsynced place piece d c

-- these bytes are the only image: nothing is pending
abbrev pub Only : (bytes : List ℕ) → (images : List ℕ → Type 0) → Type 0
Only bytes images = (c : List ℕ) → images c → c ≡ bytes

-- no image is gone
abbrev pub KeepsImages : (old new : List ℕ → Type 0) → Type 0
KeepsImages old new = (c : List ℕ) → old c → new c

-- ---- time

-- A call went by. Each image now has P, and so has each image of a moment since t that wasn't one before it.
pub record Elapses {S : Type 0} (images : S → List ℕ → Type 0) (moment : S → ℕ) (images_since : S → ℕ → List ℕ → Type 0) (old new : S) (P : List ℕ → Type 0) : Type 0 where
  pub later : moment old ≤ moment new
  pub now : (c : List ℕ) → images new c → P c
  pub nothing_else : (t : ℕ) (c : List ℕ) → t ≤ moment old → images_since new t c → images_since old t c ⊎ P c
  pub keeps : (t : ℕ) (c : List ℕ) → t ≤ moment old → images_since old t c → images_since new t c

-- Nothing was written: the bytes are the same, and no image is new.
pub record Unmoved {S : Type 0} (bytes : S → List ℕ) (images : S → List ℕ → Type 0) (moment : S → ℕ) (images_since : S → ℕ → List ℕ → Type 0) (old new : S) : Type 0 where
  pub same : bytes new ≡ bytes old
  pub within : (c : List ℕ) → images new c → images old c
  pub later : moment old ≤ moment new
  pub nothing_else : (t : ℕ) (c : List ℕ) → t ≤ moment old → images_since new t c → images_since old t c
  pub keeps : (t : ℕ) (c : List ℕ) → t ≤ moment old → images_since old t c → images_since new t c

-- Each image of each moment since old has P.
pub record LeavesOnly {S : Type 0} (moment : S → ℕ) (images_since : S → ℕ → List ℕ → Type 0) (old new : S) (P : List ℕ → Type 0) : Type 0 where
  pub later : moment old ≤ moment new
  pub each : (c : List ℕ) → images_since new (moment old) c → P c
  -- for a run that began earlier
  pub before : (t : ℕ) (c : List ℕ) → t ≤ moment old → images_since new t c → images_since old t c ⊎ P c
