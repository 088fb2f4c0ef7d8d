-- A table of the names so far that share a slot.
use Rattle.std.proofs.Common.{◌≡◌, ℕ, zero, suc, ◌+◌, ◌<◌, ◌≤◌, Bool, true, false, ◌||◌, ◌&&◌, List, [], ◌∷◌, ◌++◌, get_or, refl, sym, ap, subst, ◌∙◌, ◌⊎◌, inl, inr, arith, eqb, true≢false, Bor}
use Rattle.std.specs.Prelude.{IsTrue, Contains, if◌then◌else◌}
use Rattle.std.specs.Cmp.Lexicographic.{pointwise}
use Rattle.std.proofs.lemmas.Bool.{and_parts, cases_lt}
use Rattle.std.proofs.lemmas.List.{map-append}
use Rattle.std.proofs.lemmas.List.Elements.{Contains-append_left, Contains-append_right, Contains-append_cases}
use Rattle.std.proofs.lemmas.Slice.Eq.{bytes_eq-Decides}
use Rattle.ncc_check.specs.Noting.{IsDuplicate, texts_of}
use Rattle.ncc_check.specs.declared.notes.slots.Slot.{Slot}
use Rattle.ncc_check.specs.declared.notes.slots.Slot.TheVariants.{Shared}
use Rattle.ncc_check.specs.Slots.{HaveSlots, Seen, has_name, is_shared, is_slot_shared, slot_at, with_name}

abbrev same : Bor (List ℕ) → Bor (List ℕ) → Bool
same q k = pointwise eqb q.now k.now

has_by : (b : Bool) (q k : Bor (List ℕ)) (ks : List (Bor (List ℕ))) → same q k ≡ b → (has_name q ks ≡ true → Contains (texts_of ks) q.now) → (b || has_name q ks) ≡ true → Contains (texts_of (k ∷ ks)) q.now
has_by true q k ks e f h = (0, omega arith, sym ((bytes_eq-Decides q.now k.now).0 e))
has_by false q k ks e f h = let t = f h in (suc t.0, omega (arith, t.1), t.2)

there : (q : Bor (List ℕ)) (keys : List (Bor (List ℕ))) → has_name q keys ≡ true → Contains (texts_of keys) q.now
there q [] h = absurd (true≢false (sym h))
there q (k ∷ ks) h = has_by (same q k) q k ks refl (there q ks) h

or_by : (b : Bool) (r : Bool) → r ≡ true → (b || r) ≡ true
or_by true r e = refl
or_by false r e = e

found : (q : Bor (List ℕ)) (keys : List (Bor (List ℕ))) → Contains (texts_of keys) q.now → has_name q keys ≡ true
found q [] (k, below, is) = absurd (omega (arith, below))
found q (k ∷ ks) (zero, below, is) = ap (λ b. b || has_name q ks) ((bytes_eq-Decides q.now k.now).1 (sym is))
found q (k ∷ ks) (suc n, below, is) = or_by (same q k) (has_name q ks) (found q ks (n, omega (arith, below), is))

abbrev joined : Bool → List (Bor (List ℕ)) → Bor (List ℕ) → List (Bor (List ℕ))
joined b keys q = if b then keys else keys ++ q ∷ []

-- the name joins
joined_in : (b : Bool) (keys : List (Bor (List ℕ))) (q : Bor (List ℕ)) → has_name q keys ≡ b → Contains (texts_of (joined b keys q)) q.now
joined_in true keys q e = there q keys e
joined_in false keys q e = subst (λ ts. Contains ts q.now) (sym (map-append (λ (k : Bor (List ℕ)). k.now) keys (q ∷ []))) (Contains-append_right (texts_of keys) (q.now ∷ []) q.now (0, omega arith, refl))

-- the others stay
stayed_in : (b : Bool) (keys : List (Bor (List ℕ))) (q : Bor (List ℕ)) (name : List ℕ) → Contains (texts_of keys) name → Contains (texts_of (joined b keys q)) name
stayed_in true keys q name c = c
stayed_in false keys q name c = subst (λ ts. Contains ts name) (sym (map-append (λ (k : Bor (List ℕ)). k.now) keys (q ∷ []))) (Contains-append_left (texts_of keys) (q.now ∷ []) name c)

only : (m name : List ℕ) → Contains (m ∷ []) name → m ≡ name
only m name (zero, below, is) = is
only m name (suc k, below, is) = absurd (omega (arith, below))

either_by : (q : Bor (List ℕ)) (keys : List (Bor (List ℕ))) (name : List ℕ) → Contains (texts_of keys) name ⊎ Contains (q.now ∷ []) name → Contains (texts_of keys) name ⊎ (q.now ≡ name)
either_by q keys name (inl c) = inl c
either_by q keys name (inr c) = inr (only q.now name c)

either : (b : Bool) (keys : List (Bor (List ℕ))) (q : Bor (List ℕ)) (name : List ℕ) → Contains (texts_of (joined b keys q)) name → Contains (texts_of keys) name ⊎ (q.now ≡ name)
either true keys q name c = inl c
either false keys q name c = either_by q keys name (Contains-append_cases (texts_of keys) (q.now ∷ []) name (subst (λ ts. Contains ts name) (map-append (λ (k : Bor (List ℕ)). k.now) keys (q ∷ [])) c))

-- a name that shares its slot
one_shared : (slots : List Slot) (names : List (List ℕ)) (i : ℕ) (keys : List (Bor (List ℕ))) (q : Bor (List ℕ)) → get_or names i [] ≡ q.now → Seen slots names i keys → Seen slots names (i + 1) (with_name q keys)
one_shared slots names i keys q is s = record {
  in_table = λ name t r. in_table name t r.0 r.1 r.2 (cases_lt r.0 i);
  from_names = λ name c. from_names name (either (has_name q keys) keys q name c);
}
  where
    in_table : (name : List ℕ) → is_shared slots name ≡ true → (j : ℕ) → j < i + 1 → get_or names j [] ≡ name → (j < i) ⊎ (i ≤ j) → Contains (texts_of (with_name q keys)) name
    in_table name t j below n (inl less) = stayed_in (has_name q keys) keys q name (s.in_table name t (j, less, n))
    in_table name t j below n (inr le) =
        let last : i ≡ j = omega (arith, below, le) in
        subst (Contains (texts_of (with_name q keys))) (sym is ∙ ap (λ k. get_or names k []) last ∙ n) (joined_in (has_name q keys) keys q refl)

    from_names : (name : List ℕ) → Contains (texts_of keys) name ⊎ (q.now ≡ name) → IsDuplicate names (i + 1) name
    from_names name (inl c) = let r = s.from_names name c in (r.0, omega (arith, r.1), r.2)
    from_names name (inr n) = (i, omega arith, is ∙ n)

-- a name with a slot of its own
one_alone : (slots : List Slot) (names : List (List ℕ)) (i : ℕ) (keys : List (Bor (List ℕ))) → is_shared slots (get_or names i []) ≡ false → Seen slots names i keys → Seen slots names (i + 1) keys
one_alone slots names i keys alone s = record {
  in_table = λ name t r. in_table name t r.0 r.1 r.2 (cases_lt r.0 i);
  from_names = λ name c. let r = s.from_names name c in (r.0, omega (arith, r.1), r.2);
}
  where
    in_table : (name : List ℕ) → is_shared slots name ≡ true → (j : ℕ) → j < i + 1 → get_or names j [] ≡ name → (j < i) ⊎ (i ≤ j) → Contains (texts_of keys) name
    in_table name t j below n (inl less) = s.in_table name t (j, less, n)
    in_table name t j below n (inr le) =
        let last : i ≡ j = omega (arith, below, le) in
        absurd (true≢false (sym t ∙ ap (is_shared slots) (sym (ap (λ k. get_or names k []) last ∙ n)) ∙ alone))

by_slot : (b : Bool) (slots : List Slot) (names : List (List ℕ)) (i : ℕ) (keys : List (Bor (List ℕ))) (q : Bor (List ℕ)) → is_shared slots q.now ≡ b → get_or names i [] ≡ q.now → Seen slots names i keys → Seen slots names (i + 1) (if b then with_name q keys else keys)
by_slot true slots names i keys q t is s = one_shared slots names i keys q is s
by_slot false slots names i keys q t is s = one_alone slots names i keys (ap (is_shared slots) is ∙ t) s

pub one_seen : (slots : List Slot) (names : List (List ℕ)) (i : ℕ) (keys after : List (Bor (List ℕ))) (q : Bor (List ℕ)) → get_or names i [] ≡ q.now
    → after ≡ (if is_shared slots q.now then with_name q keys else keys) → Seen slots names i keys → Seen slots names (i + 1) after
one_seen slots names i keys after q is e s = subst (Seen slots names (i + 1)) (sym e) (by_slot (is_shared slots q.now) slots names i keys q refl is s)

-- ---- whether it is a duplicate

pub was_duplicate : (slots : List Slot) (names : List (List ℕ)) (i : ℕ) (keys : List (Bor (List ℕ))) (q : Bor (List ℕ)) (repeated : Bool) → repeated ≡ (is_shared slots q.now && has_name q keys) → Seen slots names i keys → IsTrue repeated → IsDuplicate names i q.now
was_duplicate slots names i keys q repeated e s t = s.from_names q.now (there q keys (and_parts (is_shared slots q.now) (has_name q keys) (sym e ∙ t)).1)

shared_one : (slots : List Slot) (name : List ℕ) → slot_at slots name ≡ Shared → is_shared slots name ≡ true
shared_one slots name h = ap is_slot_shared h

pub is_seen : (slots : List Slot) (names : List (List ℕ)) (n i : ℕ) (keys : List (Bor (List ℕ))) (q : Bor (List ℕ)) (repeated : Bool) → repeated ≡ (is_shared slots q.now && has_name q keys) → i < n → get_or names i [] ≡ q.now
    → HaveSlots names n slots → Seen slots names i keys → IsDuplicate names i q.now → IsTrue repeated
is_seen slots names n i keys q repeated e below is told s r = e ∙ both (is_shared slots q.now) (has_name q keys) shared (found q keys (s.in_table q.now shared r))
  where
    shared : is_shared slots q.now ≡ true
    shared = subst (λ (name : List ℕ). is_shared slots name ≡ true) is (shared_one slots (get_or names i []) (told.told i below (subst (IsDuplicate names i) (sym is) r)))

    both : (a b : Bool) → a ≡ true → b ≡ true → (a && b) ≡ true
    both a b h k = rw (h, k) refl
