-- Slots of names: a name that has its slot for itself has no other like it in its list.
use Rattle.std.specs.Prelude.{◌≡◌, ◌≢◌, ℕ, zero, suc, ◌+◌, ◌*◌, ◌-◌, ◌/◌, ◌%◌, ◌^◌, ◌<◌, Bool, true, false, List, [], ◌∷◌, ◌++◌, eqb, length, take, drop, get_or, Contains, if◌then◌else◌}
use Rattle.std.specs.Borrow.{Bor}
use Rattle.std.specs.List.{list_any}
use Rattle.std.specs.Cmp.Lexicographic.{pointwise}
use Rattle.ncc_values.specs.Numbers.{number_of}
use Rattle.ncc_check.specs.declared.notes.slots.Slot.{Slot}
use Rattle.ncc_check.specs.declared.notes.slots.Slot.TheVariants.{Free, Once, Shared}
use Rattle.ncc_check.specs.Noting.{IsDuplicate, key_of_name, texts_of}

-- ---- the slot of a name

-- with 8 more bytes
abbrev pub mixed : (hash bytes : ℕ) → ℕ
mixed hash bytes = ((hash + bytes) % 2 ^ 64 * 0x9E3779B97F4A7C15) % 2 ^ 64

-- of the first n times 8 bytes
abbrev pub hash_of_first : (n : ℕ) → List ℕ → ℕ
hash_of_first zero name = 0
hash_of_first (suc n) name = mixed (hash_of_first n name) (number_of (take 8 (drop (n * 8) name)))

-- of all bytes
abbrev pub hash_of : List ℕ → ℕ
hash_of name = mixed (hash_of_first ((length name - 1) / 8) name) (key_of_name name)

-- the slot of a name, where there are so many slots
abbrev pub slot_of : (count : ℕ) → List ℕ → ℕ
slot_of count name = (hash_of name / 2 ^ 32) % count

-- ---- the slots of the names of a list

-- with one more name
abbrev pub once_more : Slot → Slot
once_more Free = Once
once_more Once = Shared
once_more Shared = Shared

abbrev pub slot_at : List Slot → List ℕ → Slot
slot_at slots name = get_or slots (slot_of (length slots) name) Free

abbrev pub is_slot_shared : Slot → Bool
is_slot_shared Shared = true
is_slot_shared _ = false

-- names share the slot of this one
abbrev pub is_shared : List Slot → List ℕ → Bool
is_shared slots name = is_slot_shared (slot_at slots name)

-- of the first n names, each has its slot, and each that an earlier name is the same as has a shared one
pub record HaveSlots (names : List (List ℕ)) (n : ℕ) (slots : List Slot) : Type 0 where
  pub some : 0 < length slots
  pub few : length slots < 2 ^ 32
  pub taken : (k : ℕ) → k < n → slot_at slots (get_or names k []) ≢ Free
  pub told : (k : ℕ) → k < n → IsDuplicate names k (get_or names k []) → slot_at slots (get_or names k []) ≡ Shared

abbrev pub AreSlots : (names : List (List ℕ)) → List Slot → Type 0
AreSlots names slots = HaveSlots names (length names) slots

-- ---- a table of the names so far whose slots are shared

-- these bytes are in the table
abbrev pub has_name : Bor (List ℕ) → List (Bor (List ℕ)) → Bool
has_name name keys = list_any (λ k. pointwise eqb name.now k.now) keys

-- with this name, if it isn't there yet
abbrev pub with_name : Bor (List ℕ) → List (Bor (List ℕ)) → List (Bor (List ℕ))
with_name name keys = if has_name name keys then keys else keys ++ name ∷ []

-- the names in the table are among the first i, and those of them that share a slot are in it
pub record Seen (slots : List Slot) (names : List (List ℕ)) (i : ℕ) (keys : List (Bor (List ℕ))) : Type 0 where
  pub in_table : (name : List ℕ) → is_shared slots name ≡ true → IsDuplicate names i name → Contains (texts_of keys) name
  pub from_names : (name : List ℕ) → Contains (texts_of keys) name → IsDuplicate names i name
