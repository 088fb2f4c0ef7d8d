-- The elements of a list of which few take no allocation. No public clause cites this module.
use Rattle.std.specs.Prelude.{◌≡◌, ℕ, ◌≤◌, List, length, take}
use Rattle.ncc_values.specs.declared.inline_list.Storage.{Storage}
use Rattle.ncc_values.specs.declared.inline_list.Storage.TheVariants.{Inline, Heap}

module _ {T : Type 0} {N : ℕ} where
  abbrev pub items_of : Storage T N → List T
  items_of (Inline alloc len items) = take len items
  items_of (Heap items) = items.items

  -- those that take no allocation lie in an array of the given length
  abbrev pub IsWithin : Storage T N → Type 0
  IsWithin (Inline alloc len items) = (len ≤ N) × (length items ≡ N)
  IsWithin (Heap items) = Unit {0}

  -- they take no allocation
  abbrev pub IsInline : Storage T N → Type 0
  IsInline (Inline alloc len items) = Unit {0}
  IsInline (Heap items) = ⊥

  -- and are so many
  abbrev pub EndsAt : ℕ → Storage T N → Type 0
  EndsAt end (Inline alloc len items) = (end ≡ len) × (len ≤ N) × (length items ≡ N)
  EndsAt end (Heap items) = ⊥
