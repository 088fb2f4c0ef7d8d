-- A store that reads ahead.
use Rattle.std.specs.Prelude.{ℕ, ◌+◌, ◌<◌, ◌≤◌, Option, None, Some}
use Rattle.ncc_store.specs.declared.ahead.AheadStore.{AheadStore}
use Rattle.ncc_store.specs.declared.store.Store.{Ghosts}

-- a place stands at most 1,024 bytes after one, where there is one
abbrev pub IsAfter : (next : Option ℕ) → (place : ℕ) → Type 0
IsAfter None place = ⊥
IsAfter (Some next) place = (next ≤ place) × (place ≤ next + 1024)

module _ {S : Type 0} {ghosts : Ghosts S} where
  -- the store below
  abbrev pub ahead_inner : AheadStore S ghosts → S
  ahead_inner f = f.inner

  -- how many bytes it had when it was asked for their number, unless it was written since
  abbrev pub ahead_size : AheadStore S ghosts → ℕ
  ahead_size f = f.size

  -- where the last read ended, if that was short
  abbrev pub ahead_next : AheadStore S ghosts → Option ℕ
  ahead_next f = f.next

  -- how many bytes the next page has at most
  abbrev pub ahead_page : AheadStore S ghosts → ℕ
  ahead_page f = f.ahead

  -- these bytes are on its page
  abbrev pub IsHeld : AheadStore S ghosts → (place count : ℕ) → Type 0
  IsHeld f place count = (f.start ≤ place) × (place + count ≤ f.start + f.held)

  -- a short read of a byte or more inside the store, near the end of the last one
  pub record IsNear (f : AheadStore S ghosts) (place count : ℕ) : Type 0 where
    pub some : 0 < count
    pub after : IsAfter (ahead_next f) place
    pub short : count ≤ 4096
    pub inside : place + count ≤ ahead_size f
