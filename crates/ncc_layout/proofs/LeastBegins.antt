-- The least begin of a record variable.
use Rattle.std.proofs.Common.{◌≡◌, ℕ, ◌<◌, ◌≤◌, min, List, [], ◌∷◌, map, Option, Some, None, refl, sym, ap, subst, ◌∙◌, arith, ◌⊎◌, inl, inr}
use Rattle.std.proofs.lemmas.Bool.{cases_lt}
use Rattle.ncc_layout.specs.declared.extent.Extent.{Extent}
use Rattle.ncc_layout.specs.Extents.{begin_sooner, least_begin, LeastBegin}
use Rattle.ncc_layout.specs.Bounds.{least_from, first_begin}
use Rattle.ncc_layout.proofs.Membership.{In, contains_from_in}
use Rattle.ncc_layout.proofs.TestsOfRules.{least_below, least_all}

abbrev begins : List Extent → List ℕ
begins es = map (λ e. e.begin) es

-- the least number so far, or that of one of the extents
least_there : (m : ℕ) (es : List Extent) → (least_from m es ≡ m) ⊎ In (begins es) (least_from m es)
least_there m [] = inl refl
least_there m (e ∷ es) = by_order (cases_lt e.begin m) (least_there (min m e.begin) es)
  where
    by_order : (e.begin < m) ⊎ (m ≤ e.begin) → (least_from (min m e.begin) es ≡ min m e.begin) ⊎ In (begins es) (least_from (min m e.begin) es)
        → (least_from (min m e.begin) es ≡ m) ⊎ In (begins (e ∷ es)) (least_from (min m e.begin) es)
    by_order h (inr there) = inr (inr there)
    by_order (inl less) (inl same) = inr (inl (omega (arith, less, same)))
    by_order (inr less) (inl same) = inl (omega (arith, less, same))

first_there : (m : ℕ) (e : Extent) (es : List Extent) → (m ≡ e.begin) ⊎ In (begins es) m → In (begins (e ∷ es)) m
first_there m e es (inl same) = inl (sym same)
first_there m e es (inr there) = inr there

pub is_least : (es : List Extent) (found : Option ℕ) → found ≡ first_begin es → LeastBegin es found
is_least [] None is = refl
is_least [] (Some m) is = absurd cc
is_least (e ∷ es) None is = absurd cc
is_least (e ∷ es) (Some m) is =
    let same : m ≡ least_from e.begin es = cc in
    subst (λ (n : ℕ). LeastBegin (e ∷ es) (Some n)) (sym same) (
      (least_below e.begin es, least_all e.begin es),
      contains_from_in (begins (e ∷ es)) (least_from e.begin es) (first_there (least_from e.begin es) e es (least_there e.begin es)),
    )

-- ---- the least begin of the rest, and that of the first

least_of_three : (found : Option ℕ) (m n : ℕ) → begin_sooner found (min m n) ≡ min (begin_sooner found n) m
least_of_three None m n = omega arith
least_of_three (Some k) m n = omega arith

least_from_is : (m : ℕ) (es : List Extent) → least_from m es ≡ begin_sooner (least_begin es) m
least_from_is m [] = refl
least_from_is m (e ∷ es) = least_from_is (min m e.begin) es ∙ least_of_three (least_begin es) m e.begin

pub first_begin_is : (es : List Extent) → first_begin es ≡ least_begin es
first_begin_is [] = refl
first_begin_is (e ∷ es) = ap Some (least_from_is e.begin es)
