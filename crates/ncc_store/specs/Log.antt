-- A store that logs its calls with what each write replaced, and what a stop may leave at each moment.
use Rattle.std.specs.Prelude.{◌≡◌, ◌⊎◌, ℕ, zero, suc, ◌+◌, ◌-◌, List, [], ◌∷◌, ◌++◌, length, take, drop, reverse, Vec}
use Rattle.std.specs.declared.alloc.Global.{Global}
use Rattle.ncc_store.specs.declared.log.Call.{Call}
use Rattle.ncc_store.specs.declared.log.Call.TheVariants.{Write, Sync}
use Rattle.ncc_store.specs.declared.log.LogStore.{LogStore}
use Rattle.ncc_store.specs.Store.{Unsynced}

-- this write was logged last, with copies of its piece and of what it replaced
pub record LogsWrite (place : ℕ) (piece gone : List ℕ) (old_calls new_calls : List Call) (old_replaced new_replaced : List (Vec ℕ Global)) : Type 0 where
  pub copy : Vec ℕ Global
  pub kept : Vec ℕ Global
  pub is_piece : copy.items ≡ piece
  pub is_gone : kept.items ≡ gone
  pub calls : new_calls ≡ old_calls ++ Write place copy ∷ []
  pub replaced : new_replaced ≡ old_replaced ++ kept ∷ []

-- ---- what calls leave. Here both lists have the newest first.

-- the bytes before a write of that many bytes at this place, where these are the bytes after it
abbrev pub unwritten : (place size : ℕ) → (gone now : List ℕ) → List ℕ
unwritten place size gone now = take place now ++ gone ++ drop (place + size) now

-- what a stop after these calls may leave: the bytes, or an image from before the last write with it in part
abbrev pub images_of : List Call → List (Vec ℕ Global) → (now : List ℕ) → List ℕ → Type 0
images_of [] replaced now c = c ≡ now
images_of (Sync ∷ calls) replaced now c = c ≡ now
images_of (Write place piece ∷ calls) [] now c = c ≡ now
images_of (Write place piece ∷ calls) (gone ∷ replaced) now c = (c ≡ now)
    ⊎ ((d : List ℕ) × images_of calls replaced (unwritten place (length piece.items) gone.items now) d × Unsynced place piece.items d c)

-- what a stop may leave now, or might have left after one of the n calls before
abbrev pub images_back : ℕ → List Call → List (Vec ℕ Global) → (now : List ℕ) → List ℕ → Type 0
images_back zero calls replaced now c = images_of calls replaced now c
images_back (suc n) [] replaced now c = images_of [] replaced now c
images_back (suc n) (Sync ∷ calls) replaced now c = images_of (Sync ∷ calls) replaced now c ⊎ images_back n calls replaced now c
images_back (suc n) (Write place piece ∷ calls) [] now c = images_of (Write place piece ∷ calls) [] now c
images_back (suc n) (Write place piece ∷ calls) (gone ∷ replaced) now c = images_of (Write place piece ∷ calls) (gone ∷ replaced) now c
    ⊎ images_back n calls replaced (unwritten place (length piece.items) gone.items now) c

-- ---- the same with the oldest first

abbrev pub images_after : List Call → List (Vec ℕ Global) → (now : List ℕ) → List ℕ → Type 0
images_after calls replaced now c = images_of (reverse calls) (reverse replaced) now c

-- of each moment since so many calls were done
abbrev pub images_from : List Call → List (Vec ℕ Global) → (now : List ℕ) → ℕ → List ℕ → Type 0
images_from calls replaced now t c = images_back (length calls - t) (reverse calls) (reverse replaced) now c

-- ---- the store

abbrev pub log_bytes : LogStore → List ℕ
log_bytes s = s.bytes.items

-- the calls that succeeded, the oldest first
abbrev pub log_calls : LogStore → List Call
log_calls s = s.calls.items

-- what each write replaced, one list of bytes a write, the oldest first
abbrev pub log_replaced : LogStore → List (Vec ℕ Global)
log_replaced s = s.replaced.items

abbrev pub log_failures : LogStore → ℕ
log_failures s = s.failures

abbrev pub log_images : LogStore → List ℕ → Type 0
log_images s c = images_after (log_calls s) (log_replaced s) (log_bytes s) c

abbrev pub log_moment : LogStore → ℕ
log_moment s = length (log_calls s)

abbrev pub log_images_since : LogStore → ℕ → List ℕ → Type 0
log_images_since s t c = images_from (log_calls s) (log_replaced s) (log_bytes s) t c

-- nothing changed but the count of failures
pub record HoldsSame (old new : LogStore) : Type 0 where
  pub bytes : log_bytes new ≡ log_bytes old
  pub calls : log_calls new ≡ log_calls old
  pub replaced : log_replaced new ≡ log_replaced old
