-- Slots of names, as one name after another takes its own.
use Rattle.std.proofs.Common.{◌≡◌, ◌≢◌, ℕ, ◌+◌, ◌<◌, ◌≤◌, List, [], length, get_or, set, refl, sym, ap, ◌∙◌, ◌⊎◌, inl, inr, arith}
use Rattle.std.proofs.lemmas.Bool.{cases_eq, cases_lt}
use Rattle.std.proofs.lemmas.List.{get_or-set_other, get_or-set_same, length-set}
use Rattle.ncc_check.specs.declared.notes.slots.Slot.{Slot}
use Rattle.ncc_check.specs.declared.notes.slots.Slot.TheVariants.{Free, Once, Shared}
use Rattle.ncc_check.specs.Noting.{IsDuplicate}
use Rattle.ncc_check.specs.Slots.{HaveSlots, once_more, slot_at, slot_of}

-- ---- a slot with one more name

not_free : (x : Slot) → once_more x ≢ Free
not_free Free e = absurd cc
not_free Once e = absurd cc
not_free Shared e = absurd cc

taken_again : (x : Slot) → x ≢ Free → once_more x ≡ Shared
taken_again Free h = absurd (h refl)
taken_again Once h = refl
taken_again Shared h = refl

stays_shared : (x : Slot) → x ≡ Shared → once_more x ≡ Shared
stays_shared Free h = absurd cc
stays_shared Once h = refl
stays_shared Shared h = refl

-- ---- the slots with one more name

module _ (slots : List Slot) (new : List ℕ) (there : slot_of (length slots) new < length slots) where
  abbrev pub after : List Slot
  after = set slots (slot_of (length slots) new) (once_more (slot_at slots new))

  long : length after ≡ length slots
  long = length-set slots (slot_of (length slots) new) (once_more (slot_at slots new))

  at_same : (name : List ℕ) → slot_of (length slots) name ≡ slot_of (length slots) new → slot_at after name ≡ once_more (slot_at slots name)
  at_same name e =
      ap (λ (n : ℕ). get_or after (slot_of n name) Free) long
      ∙ ap (λ (n : ℕ). get_or after n Free) e
      ∙ get_or-set_same slots (slot_of (length slots) new) (once_more (slot_at slots new)) Free there
      ∙ ap (λ (n : ℕ). once_more (get_or slots n Free)) (sym e)

  at_other : (name : List ℕ) → (slot_of (length slots) name ≡ slot_of (length slots) new → ⊥) → slot_at after name ≡ slot_at slots name
  at_other name other =
      ap (λ (n : ℕ). get_or after (slot_of n name) Free) long
      ∙ get_or-set_other slots (slot_of (length slots) new) (slot_of (length slots) name) (once_more (slot_at slots new)) Free other

  -- the slot of a name has one more, or is as it was
  either : (name : List ℕ) → (slot_at after name ≡ once_more (slot_at slots name)) ⊎ (slot_at after name ≡ slot_at slots name)
  either name = elim (cases_eq (slot_of (length slots) name) (slot_of (length slots) new)) [
    | inl same ↦ inl (at_same name same)
    | inr other ↦ inr (at_other name other)
  ]

  still_taken : (name : List ℕ) → slot_at slots name ≢ Free → slot_at after name ≢ Free
  still_taken name h = by (either name)
    where
      by : (slot_at after name ≡ once_more (slot_at slots name)) ⊎ (slot_at after name ≡ slot_at slots name) → slot_at after name ≢ Free
      by (inl e) f = not_free (slot_at slots name) (sym e ∙ f)
      by (inr e) f = h (sym e ∙ f)

  still_shared : (name : List ℕ) → slot_at slots name ≡ Shared → slot_at after name ≡ Shared
  still_shared name h = by (either name)
    where
      by : (slot_at after name ≡ once_more (slot_at slots name)) ⊎ (slot_at after name ≡ slot_at slots name) → slot_at after name ≡ Shared
      by (inl e) = e ∙ stays_shared (slot_at slots name) h
      by (inr e) = e ∙ h

-- ---- of the names of a list

module _ (names : List (List ℕ)) (i : ℕ) (slots : List Slot) (there : slot_of (length slots) (get_or names i []) < length slots) (t : HaveSlots names i slots) where
  abbrev new : List ℕ
  new = get_or names i []

  taken : (k : ℕ) → k < i + 1 → slot_at (after slots new there) (get_or names k []) ≢ Free
  taken k below = by (cases_lt k i)
    where
      by : (k < i) ⊎ (i ≤ k) → slot_at (after slots new there) (get_or names k []) ≢ Free
      by (inl less) f = still_taken slots new there (get_or names k []) (t.taken k less) f
      by (inr le) f =
          let same : k ≡ i = omega (arith, below, le) in
          not_free (slot_at slots new) (sym (at_same slots new there new refl) ∙ ap (λ (j : ℕ). slot_at (after slots new there) (get_or names j [])) (sym same) ∙ f)

  told : (k : ℕ) → k < i + 1 → IsDuplicate names k (get_or names k []) → slot_at (after slots new there) (get_or names k []) ≡ Shared
  told k below r = by (cases_lt k i)
    where
      by : (k < i) ⊎ (i ≤ k) → slot_at (after slots new there) (get_or names k []) ≡ Shared
      by (inl less) = still_shared slots new there (get_or names k []) (t.told k less r)
      by (inr le) =
          let same : k ≡ i = omega (arith, below, le) in
          let name : get_or names r.0 [] ≡ new = r.2 ∙ ap (λ (j : ℕ). get_or names j []) same in
          let was : slot_at slots new ≢ Free = λ f. t.taken r.0 (omega (arith, r.1, same)) (ap (slot_at slots) name ∙ f) in
          ap (λ (j : ℕ). slot_at (after slots new there) (get_or names j [])) same ∙ at_same slots new there new refl ∙ taken_again (slot_at slots new) was

  pub one_slot : HaveSlots names (i + 1) (after slots new there)
  one_slot = record {
    some = omega (arith, t.some, long slots new there);
    few = omega (arith, t.few, long slots new there);
    taken = taken;
    told = told;
  }
