-- A table of names.
use Rattle.std.proofs.Common.{◌≡◌, ℕ, Bool, false, true, true≢false, ◌&&◌, ◌||◌, ◌<◌, ◌≤◌, ◌⊎◌, arith, length, get_or, take, List, [], ◌∷◌, ◌++◌, map, refl, sym, ap, ◌∙◌, eqb, if◌then◌else◌, inl, inr}
use Rattle.std.proofs.lemmas.Bool.{cases_lt, or_cases, or_parts}
use Rattle.std.proofs.Math.Bool.{or-true}
use Rattle.std.specs.List.{list_any}
use Rattle.std.specs.Cmp.Lexicographic.{pointwise}
use Rattle.std.proofs.lemmas.List.{map-append, length-append, get_or_append_left, get_or_push, take-append-le, take_all}
use Rattle.ncc_build.specs.Fill.{same}
use Rattle.ncc_build.specs.Building.{is_duplicate_name}
use Rattle.ncc_build.specs.Tables.{NoneTwice}

pub same_is : (xs ys : List ℕ) → pointwise eqb xs ys ≡ same xs ys
same_is [] [] = refl
same_is [] (y ∷ ys) = refl
same_is (x ∷ xs) [] = refl
same_is (x ∷ xs) (y ∷ ys) = ap (λ b. eqb x y && b) (same_is xs ys)

-- a name is found in the table of the keys' names
pub found_is : {K : Type 0} (items : K → List ℕ) (name : List ℕ) (keys : List K) → list_any (λ k. pointwise eqb name (items k)) keys ≡ is_duplicate_name name (map items keys)
found_is items name [] = refl
found_is items name (k ∷ keys) =
    ap (λ b. b || list_any (λ k. pointwise eqb name (items k)) keys) (same_is name (items k))
    ∙ ap (λ b. same name (items k) || b) (found_is items name keys)

-- a key that isn't there yet goes last
pub added_is : {K : Type 0} (items : K → List ℕ) (key : K) (keys after : List K)
    → after ≡ (if list_any (λ k. pointwise eqb (items key) (items k)) keys then keys else keys ++ key ∷ [])
    → is_duplicate_name (items key) (map items keys) ≡ false → map items after ≡ map items keys ++ items key ∷ []
added_is items key keys after e none =
    ap (map items) (e ∙ ap (λ b. if b then keys else keys ++ key ∷ []) (found_is items (items key) keys ∙ none)) ∙ map-append items keys (key ∷ [])

-- a name that isn't among the first is among all as it is among the others
pub past_first : (name : List ℕ) (first others : List (List ℕ)) → list_any (pointwise eqb name) first ≡ false → is_duplicate_name name others ≡ is_duplicate_name name (first ++ others)
past_first name [] others none = refl
past_first name (x ∷ first) others none =
    let p = or_parts (pointwise eqb name x) (list_any (pointwise eqb name) first) none in
    past_first name first others p.1 ∙ ap (λ b. b || is_duplicate_name name (first ++ others)) (sym (sym (same_is name x) ∙ p.0))

pub among_first : (name : List ℕ) (first others : List (List ℕ)) → list_any (pointwise eqb name) first ≡ true → is_duplicate_name name (first ++ others) ≡ true
among_first name [] others here = absurd (true≢false (sym here))
among_first name (x ∷ first) others here = elim (or_cases (pointwise eqb name x) (list_any (pointwise eqb name) first) here) [
  | inl same_one ↦ ap (λ b. b || is_duplicate_name name (first ++ others)) (sym (same_is name x) ∙ same_one)
  | inr later ↦ ap (λ b. same name x || b) (among_first name first others later) ∙ or-true (same name x)
]

pub not_other : (name : List ℕ) (first others : List (List ℕ)) → is_duplicate_name name (first ++ others) ≡ false → is_duplicate_name name others ≡ false
not_other name [] others none = none
not_other name (x ∷ first) others none = not_other name first others (or_parts (same name x) (is_duplicate_name name (first ++ others)) none).1

pub not_first : (name : List ℕ) (first others : List (List ℕ)) → is_duplicate_name name (first ++ others) ≡ false → is_duplicate_name name first ≡ false
not_first name [] others none = refl
not_first name (x ∷ first) others none =
    let p = or_parts (same name x) (is_duplicate_name name (first ++ others)) none in
    ap (λ b. b || is_duplicate_name name first) p.0 ∙ not_first name first others p.1

-- ---- names of which none comes again

distinct_more : (names : List (List ℕ)) (name : List ℕ) → NoneTwice names → is_duplicate_name name names ≡ false → NoneTwice (names ++ name ∷ [])
distinct_more names name distinct none k below = by (cases_lt k (length names))
  where
    by : (k < length names) ⊎ (length names ≤ k) → is_duplicate_name (get_or (names ++ name ∷ []) k []) (take k (names ++ name ∷ [])) ≡ false
    by (inl less) =
        ap (λ (n : List ℕ). is_duplicate_name n (take k (names ++ name ∷ []))) (get_or_append_left names (name ∷ []) [] k less)
        ∙ ap (is_duplicate_name (get_or names k [])) (take-append-le k names (name ∷ []) (omega (arith, less)))
        ∙ distinct k less
    by (inr le) =
        let last : k ≡ length names = omega (arith, le, below, length-append names (name ∷ [])) in
        ap (λ (n : ℕ). is_duplicate_name (get_or (names ++ name ∷ []) n []) (take n (names ++ name ∷ []))) last
        ∙ ap (λ (n : List ℕ). is_duplicate_name n (take (length names) (names ++ name ∷ []))) (get_or_push names name [] (length names) refl)
        ∙ ap (is_duplicate_name name) (take-append-le (length names) names (name ∷ []) (omega arith) ∙ take_all (length names) names (omega arith))
        ∙ none

-- it joins them, or doesn't
pub distinct_either : (joins : Bool) (names : List (List ℕ)) (name : List ℕ) → NoneTwice names → is_duplicate_name name names ≡ false → NoneTwice (if joins then names ++ name ∷ [] else names)
distinct_either true names name distinct none = distinct_more names name distinct none
distinct_either false names name distinct none = distinct
