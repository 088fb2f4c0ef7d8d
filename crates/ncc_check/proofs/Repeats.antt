-- Names that are the same, and notes on one more name.
use Rattle.std.proofs.Common.{◌≡◌, ◌⊎◌, inl, inr, ℕ, ◌+◌, ◌%◌, ap, ◌<◌, ◌≤◌, Bool, true, false, List, [], length, map, get_or, set, refl, sym, subst, ◌∙◌, eqb, true≢false, arith}
use Rattle.std.specs.Prelude.{IsTrue, not}
use Rattle.std.proofs.lemmas.Bool.{cases_lt}
use Rattle.std.proofs.lemmas.List.{get_or-map, get_or-set_other, get_or-set_same, length-map}
use Rattle.std.proofs.lemmas.Slice.Eq.{bytes_eq-Decides}
use Rattle.std.specs.Cmp.Lexicographic.{pointwise}
use Rattle.ncc_values.specs.Name.{FitsAsName}
use Rattle.ncc_check.specs.declared.note.Note.{Note}
use Rattle.ncc_check.specs.declared.note.NoteKind.TheVariants.{NameRule, DuplicateName}
use Rattle.ncc_check.specs.Noting.{Adds, AreKeys, AreTaken, FirstNameNotes, IsDuplicate, NameNotes, NameNotesAt, ToldNotes, key_of_name}
use Rattle.ncc_check.proofs.Joining.{as_well, one_more}

pub name_at : {A : Type 0} (text : A → List ℕ) (items : List A) (k : ℕ) (x : A) → k < length items → x ≡ get_or items k x → get_or (map text items) k [] ≡ text x
name_at text items k x below is = get_or-map text items k x [] below ∙ ap text (sym is)

pub same_bytes : (xs ys : List ℕ) → pointwise eqb xs ys ≡ true → xs ≡ ys
same_bytes xs ys h = (bytes_eq-Decides xs ys).0 h

pub other_bytes : (xs ys : List ℕ) → pointwise eqb xs ys ≡ false → xs ≡ ys → ⊥
other_bytes xs ys h e = true≢false (sym ((bytes_eq-Decides xs ys).1 e) ∙ h)

pub untrue : (b : Bool) → IsTrue (not b) → IsTrue b → ⊥
untrue true h k = true≢false (sym h)
untrue false h k = true≢false (sym k)

pub not_true : (b : Bool) → (IsTrue b → ⊥) → IsTrue (not b)
not_true true h = absurd (h refl)
not_true false h = refl

-- ---- keys and their slots

-- names with other keys are others
pub other_key : (names : List (List ℕ)) (n : ℕ) (keys : List ℕ) (i : ℕ) → AreKeys names (n + 1) keys → i < n → (get_or keys i 0 ≡ get_or keys n 0 → ⊥) → get_or names i [] ≡ get_or names n [] → ⊥
other_key names n keys i are below other e = other (are i (omega (arith, below)) ∙ ap key_of_name e ∙ sym (are n (omega arith)))

-- one more slot
slot_stays : (taken : List Bool) (a b : ℕ) → b < length taken → get_or taken a false ≡ true → (a < b) ⊎ (b ≤ a) → (b < a) ⊎ (a ≤ b) → get_or (set taken b true) a false ≡ true
slot_stays taken a b there is (inl less) _ = get_or-set_other taken b a true false (λ e. absurd (omega (arith, less, e))) ∙ is
slot_stays taken a b there is (inr ge) (inl less) = get_or-set_other taken b a true false (λ e. absurd (omega (arith, less, e))) ∙ is
slot_stays taken a b there is (inr ge) (inr le) =
    let same : a ≡ b = omega (arith, ge, le) in
    ap (λ (n : ℕ). get_or (set taken b true) n false) same ∙ get_or-set_same taken b true false there

pub more_taken : (names : List (List ℕ)) (n : ℕ) (taken : List Bool) (own : ℕ) (after : List Bool) → own ≡ key_of_name (get_or names n []) → after ≡ set taken (own % 61) true → own % 61 < length taken → AreTaken names n taken → AreTaken names (n + 1) after
more_taken names n taken own after is changed there earlier j below = ap (λ (xs : List Bool). get_or xs (slot j) false) changed ∙ by (cases_lt j n)
  where
    slot : ℕ → ℕ
    slot k = key_of_name (get_or names k []) % 61

    by : (j < n) ⊎ (n ≤ j) → get_or (set taken (own % 61) true) (slot j) false ≡ true
    by (inl less) = slot_stays taken (slot j) (own % 61) there (earlier j less) (cases_lt (slot j) (own % 61)) (cases_lt (own % 61) (slot j))
    by (inr le) =
        let same : j ≡ n = omega (arith, below, le) in
        let one : slot j ≡ own % 61 = ap slot same ∙ ap (λ (k : ℕ). k % 61) (sym is) in
        ap (λ (k : ℕ). get_or (set taken (own % 61) true) k false) one ∙ get_or-set_same taken (own % 61) true false there

-- ---- the notes on a name

pub told_noted : (names : List (List ℕ)) (offsets : List ℕ) (k : ℕ) (fits repeated : Bool) (at : ℕ) (xs ys : List Note) → (IsTrue fits → FitsAsName (get_or names k [])) → (FitsAsName (get_or names k []) → IsTrue fits) → get_or offsets k 0 ≡ at
    → Adds (ToldNotes fits repeated at) xs ys → Adds (NameNotesAt names offsets k (IsTrue repeated)) xs ys
told_noted names offsets k fits repeated at xs ys to from stands a = as_well (ToldNotes fits repeated at) (NameNotesAt names offsets k (IsTrue repeated)) xs ys there back a
  where
    there : (n : Note) → ToldNotes fits repeated at n → NameNotesAt names offsets k (IsTrue repeated) n
    there n (inl p) = inl (record { is_due = λ f. untrue fits p.is_due (from f); is = p.is ∙ (λ i. record { kind = NameRule; offset = sym stands i }) })
    there n (inr p) = inr (record { is_due = p.is_due; is = p.is ∙ (λ i. record { kind = DuplicateName; offset = sym stands i }) })

    back : (n : Note) → NameNotesAt names offsets k (IsTrue repeated) n → ToldNotes fits repeated at n
    back n (inl p) = inl (record { is_due = not_true fits (λ t. p.is_due (to t)); is = p.is ∙ (λ i. record { kind = NameRule; offset = stands i }) })
    back n (inr p) = inr (record { is_due = p.is_due; is = p.is ∙ (λ i. record { kind = DuplicateName; offset = stands i }) })

-- those of one more name
pub one_name : (names : List (List ℕ)) (offsets : List ℕ) (i : ℕ) (repeated : Bool) (xs ys zs : List Note)
    → (IsTrue repeated → IsDuplicate names i (get_or names i [])) → (IsDuplicate names i (get_or names i []) → IsTrue repeated)
    → Adds (FirstNameNotes names offsets i) xs ys → Adds (NameNotesAt names offsets i (IsTrue repeated)) ys zs → Adds (FirstNameNotes names offsets (i + 1)) xs zs
one_name names offsets i repeated xs ys zs to from a b =
    one_more (λ k. NameNotesAt names offsets k (IsDuplicate names k (get_or names k []))) i xs ys zs a
    (as_well (NameNotesAt names offsets i (IsTrue repeated)) (NameNotesAt names offsets i (IsDuplicate names i (get_or names i []))) ys zs there back b)
  where
    there : (n : Note) → NameNotesAt names offsets i (IsTrue repeated) n → NameNotesAt names offsets i (IsDuplicate names i (get_or names i [])) n
    there n (inl p) = inl p
    there n (inr p) = inr (record { is_due = to p.is_due; is = p.is })

    back : (n : Note) → NameNotesAt names offsets i (IsDuplicate names i (get_or names i [])) n → NameNotesAt names offsets i (IsTrue repeated) n
    back n (inl p) = inl p
    back n (inr p) = inr (record { is_due = from p.is_due; is = p.is })

-- those of all names
pub all_names : {A : Type 0} (text : A → List ℕ) (items : List A) (offsets : List ℕ) (i : ℕ) (xs ys : List Note) → i ≡ length items → Adds (FirstNameNotes (map text items) offsets i) xs ys → Adds (NameNotes (map text items) offsets) xs ys
all_names text items offsets i xs ys end a = subst (λ (n : ℕ). Adds (FirstNameNotes (map text items) offsets n) xs ys) (end ∙ sym (length-map items text)) a
