-- Names that keep the rule and differ, with one more.
use Rattle.std.proofs.Common.{◌≡◌, ℕ, ◌≤◌, Bool, true, false, List, [], ◌∷◌, ◌++◌, length, map, refl, sym, subst, ◌∙◌, true≢false}
use Rattle.std.proofs.lemmas.Bool.{or_parts, or_from}
use Rattle.std.proofs.lemmas.List.{map-append}
use Rattle.std.proofs.lemmas.Slice.Eq.{bytes_eq-Decides}
use Rattle.ncc_values.specs.Name.{FitsAsName}
use Rattle.ncc_build.specs.Fill.{same}
use Rattle.ncc_build.specs.Building.{name_limit, is_duplicate_name, AreNames, AreShort}
use Rattle.ncc_build.proofs.Lists.{all_last}
use Rattle.ncc_build.proofs.Tables.{same_is}

other_by : (xs ys : List ℕ) (b : Bool) → same ys xs ≡ b → same xs ys ≡ false → same ys xs ≡ false
other_by xs ys true e h =
    let p : ys ≡ xs = (bytes_eq-Decides ys xs).0 (same_is ys xs ∙ e) in
    absurd (true≢false (sym ((bytes_eq-Decides xs ys).1 (sym p)) ∙ same_is xs ys ∙ h))
other_by xs ys false e h = e

other_way : (xs ys : List ℕ) → same xs ys ≡ false → same ys xs ≡ false
other_way xs ys h = other_by xs ys (same ys xs) refl h

any_last : (m name : List ℕ) (ms : List (List ℕ)) → is_duplicate_name m ms ≡ false → same m name ≡ false → is_duplicate_name m (ms ++ name ∷ []) ≡ false
any_last m name [] none here = or_from (same m name) false here refl
any_last m name (x ∷ ms) none here =
    let p = or_parts (same m x) (is_duplicate_name m ms) none in
    or_from (same m x) (is_duplicate_name m (ms ++ name ∷ [])) p.0 (any_last m name ms p.1 here)

pub names_last : (names : List (List ℕ)) (name : List ℕ) → AreNames names → FitsAsName name → is_duplicate_name name names ≡ false → AreNames (names ++ name ∷ [])
names_last [] name all fits fresh = (fits, refl, tt)
names_last (m ∷ ms) name all fits fresh =
    let p = or_parts (same name m) (is_duplicate_name name ms) fresh in
    (all.0, any_last m name ms all.1 (other_way name m p.0), names_last ms name all.2 fits p.1)

-- the names of items, with one item more
module _ {A : Type 0} (name_of : A → List ℕ) (items : List A) (item : A) where
  named_last : map name_of (items ++ item ∷ []) ≡ map name_of items ++ name_of item ∷ []
  named_last = map-append name_of items (item ∷ [])

  pub are_names_last : AreNames (map name_of items) → FitsAsName (name_of item) → is_duplicate_name (name_of item) (map name_of items) ≡ false → AreNames (map name_of (items ++ item ∷ []))
  are_names_last all fits fresh = subst AreNames (sym named_last) (names_last (map name_of items) (name_of item) all fits fresh)

  pub are_short_last : AreShort (map name_of items) → length (name_of item) ≤ name_limit → AreShort (map name_of (items ++ item ∷ []))
  are_short_last all short = subst AreShort (sym named_last) (all_last (λ name. length name ≤ name_limit) (map name_of items) (name_of item) all short)
