-- Extents in the order of begin and number: whatever sorts them gives the same list.
use Rattle.std.proofs.Common.{◌≡◌, ℕ, suc, ◌+◌, ◌<◌, ◌≤◌, ◌^◌, Bool, true, false, ◌&&◌, ltb, List, [], ◌∷◌, length, map, refl, sym, ap, ap₂, subst, ◌∙◌, arith, ◌⊎◌, inl, inr}
use Rattle.std.specs.Prelude.{◌==◌, if◌then◌else◌}
use Rattle.std.specs.List.{IsDistinct, range_with_len}
use Rattle.std.specs.List.Sorted.{IsNonDecreasingBy, IsPermutation}
use Rattle.std.proofs.lemmas.Bool.{cases_lt, and_cases, eqb-false, eqb-true, ltb-false, ltb-true, or_cases, or_parts, and_parts}
use Rattle.std.proofs.lemmas.List.Sorted.{Contains-permutation, IsPermutation-cons, IsPermutation-map, IsPermutation-middle, IsPermutation-refl, IsPermutation-sym, IsPermutation-trans}
use Rattle.std.proofs.lemmas.Map.Keys.{IsDistinct-IsPermutation, IsDistinct-cons, IsDistinct-head, IsDistinct-tail}
use Rattle.std.specs.List.{AllByRecursion}
use Rattle.ncc_schema.specs.declared.schema.Dim.{Dim}
use Rattle.ncc_schema.specs.declared.schema.Var.{Var}
use Rattle.ncc_schema.specs.Schema.{Place}
use Rattle.ncc_layout.specs.declared.extent.Extent.{Extent}
use Rattle.ncc_layout.specs.Bounds.{rank}
use Rattle.ncc_layout.specs.Extents.{NumberedFrom, extents_from}
use Rattle.ncc_layout.specs.Rules.Overlap.{Before, InOrder, InOrderFrom}
use Rattle.ncc_layout.proofs.Membership.{In, all_in, contains_from_in, in_from_contains}
use Rattle.ncc_places.specs.Order.{by_begin, comes_before, placed_among}

-- ---- the test

before_if : (d e : Extent) → comes_before d e ≡ true → Before d e
before_if d e is = by_test (or_cases (ltb d.begin e.begin) ((d.begin == e.begin) && ltb d.variable e.variable) is)
  where
    by_test : (ltb d.begin e.begin ≡ true) ⊎ (((d.begin == e.begin) && ltb d.variable e.variable) ≡ true) → Before d e
    by_test (inl less) = inl (ltb-true d.begin e.begin less)
    by_test (inr ties) =
        let two = and_parts (d.begin == e.begin) (ltb d.variable e.variable) ties in
        inr (eqb-true d.begin e.begin two.0, ltb-true d.variable e.variable two.1)

after_if_not : (d e : Extent) → comes_before d e ≡ false → (d.variable ≡ e.variable → ⊥) → Before e d
after_if_not d e is other =
    let two = or_parts (ltb d.begin e.begin) ((d.begin == e.begin) && ltb d.variable e.variable) is in
    by_ties (ltb-false d.begin e.begin two.0) (and_cases (d.begin == e.begin) (ltb d.variable e.variable) two.1) (cases_lt e.begin d.begin)
  where
    by_number : e.variable ≤ d.variable → (e.variable < d.variable) ⊎ (d.variable ≤ e.variable) → e.variable < d.variable
    by_number le (inl l) = l
    by_number le (inr l) = absurd (other (omega (arith, le, l)))

    by_ties : e.begin ≤ d.begin → ((d.begin == e.begin) ≡ false) ⊎ (ltb d.variable e.variable ≡ false) → (e.begin < d.begin) ⊎ (d.begin ≤ e.begin) → Before e d
    by_ties le ties (inl l) = inl l
    by_ties le (inl differ) (inr l) = absurd (eqb-false d.begin e.begin differ (omega (arith, le, l)))
    by_ties le (inr number) (inr l) = inr (omega (arith, le, l), by_number (ltb-false d.variable e.variable number) (cases_lt e.variable d.variable))

before_trans : (c d e : Extent) → Before c d → Before d e → Before c e
before_trans c d e (inl a) (inl b) = inl (omega (arith, a, b))
before_trans c d e (inl a) (inr b) = inl (omega (arith, a, b.0))
before_trans c d e (inr a) (inl b) = inl (omega (arith, a.0, b))
before_trans c d e (inr a) (inr b) = inr (omega (arith, a.0, b.0), omega (arith, a.1, b.1))

not_both : (d e : Extent) → Before d e → Before e d → ⊥
not_both d e (inl a) (inl b) = omega (arith, a, b)
not_both d e (inl a) (inr b) = omega (arith, a, b.0)
not_both d e (inr a) (inl b) = omega (arith, a.0, b)
not_both d e (inr a) (inr b) = omega (arith, a.1, b.1)

-- ---- lists in which each comes before all after it

abbrev ComesFirst : Extent → List Extent → Type 0
ComesFirst d es = (e : Extent) → In es e → Before d e

abbrev Rises : List Extent → Type 0
Rises [] = Unit {0}
Rises (d ∷ es) = ComesFirst d es × Rises es

abbrev Within : (xs ys : List Extent) → Type 0
Within xs ys = (e : Extent) → In xs e → In ys e

same_head : (x y : Extent) (xs ys : List Extent) → ComesFirst x xs → ComesFirst y ys → In (y ∷ ys) x → In (x ∷ xs) y → x ≡ y
same_head x y xs ys r s (inl same) k = sym same
same_head x y xs ys r s (inr h) (inl same) = same
same_head x y xs ys r s (inr h) (inr k) = absurd (not_both x y (r y k) (s x h))

in_tail : (x y : Extent) (xs ys : List Extent) → x ≡ y → ComesFirst x xs → Within (x ∷ xs) (y ∷ ys) → Within xs ys
in_tail x y xs ys same first within e h = by_place (within e (inr h))
  where
    by_place : In (y ∷ ys) e → In ys e
    by_place (inl is) =
        let itself : Before x x = subst (Before x) (sym (same ∙ is)) (first e h) in
        absurd (not_both x x itself itself)
    by_place (inr k) = k

one_list : (xs ys : List Extent) → Rises xs → Rises ys → Within xs ys → Within ys xs → xs ≡ ys
one_list [] [] r s h k = refl
one_list [] (y ∷ ys) r s h k = absurd (k y (inl refl))
one_list (x ∷ xs) [] r s h k = absurd (h x (inl refl))
one_list (x ∷ xs) (y ∷ ys) r s h k =
    let same : x ≡ y = same_head x y xs ys r.0 s.0 (h x (inl refl)) (k y (inl refl)) in
    ap₂ (λ (e : Extent) (es : List Extent). e ∷ es) same
    (one_list xs ys r.1 s.1 (in_tail x y xs ys same r.0 h) (in_tail y x ys xs (sym same) s.0 k))

-- ---- the list by insertion

in_cond : (b : Bool) (xs ys zs : List Extent) → (b ≡ true → Within xs zs) → (b ≡ false → Within ys zs) → Within (if b then xs else ys) zs
in_cond true xs ys zs h k = h refl
in_cond false xs ys zs h k = k refl

cond_in : (b : Bool) (xs ys zs : List Extent) → Within zs xs → Within zs ys → Within zs (if b then xs else ys)
cond_in true xs ys zs h k = h
cond_in false xs ys zs h k = k

abbrev swapped : (d e : Extent) (es : List Extent) → Within (d ∷ e ∷ es) (e ∷ d ∷ es)
swapped d e es x (inl is) = inr (inl is)
swapped d e es x (inr (inl is)) = inl is
swapped d e es x (inr (inr h)) = inr (inr h)

below : (d : Extent) (xs ys : List Extent) → Within xs ys → Within (d ∷ xs) (d ∷ ys)
below d xs ys h x (inl is) = inl is
below d xs ys h x (inr k) = inr (h x k)

among_in : (e : Extent) (es : List Extent) → Within (placed_among e es) (e ∷ es)
among_in e [] x h = h
among_in e (d ∷ es) x h =
    in_cond (comes_before e d) (e ∷ d ∷ es) (d ∷ placed_among e es) (e ∷ d ∷ es) (λ t y k. k)
    (λ t y k. swapped d e es y (below d (placed_among e es) (e ∷ es) (among_in e es) y k)) x h

in_among : (e : Extent) (es : List Extent) → Within (e ∷ es) (placed_among e es)
in_among e [] x h = h
in_among e (d ∷ es) x h =
    cond_in (comes_before e d) (e ∷ d ∷ es) (d ∷ placed_among e es) (e ∷ d ∷ es) (λ y k. k)
    (λ y k. below d (e ∷ es) (placed_among e es) (in_among e es) y (swapped e d es y k)) x h

rises_cond : (b : Bool) (xs ys : List Extent) → (b ≡ true → Rises xs) → (b ≡ false → Rises ys) → Rises (if b then xs else ys)
rises_cond true xs ys h k = h refl
rises_cond false xs ys h k = k refl

among_rises : (e : Extent) (es : List Extent) → Rises es → ((x : Extent) → In es x → e.variable ≡ x.variable → ⊥) → Rises (placed_among e es)
among_rises e [] r other = (λ x h. absurd h, tt)
among_rises e (d ∷ es) r other = rises_cond (comes_before e d) (e ∷ d ∷ es) (d ∷ placed_among e es)
    (λ t. (first (before_if e d t), r))
    (λ t. (second (after_if_not e d t (other d (inl refl))), among_rises e es r.1 (λ x h. other x (inr h))))
  where
    first : Before e d → ComesFirst e (d ∷ es)
    first is x (inl same) = subst (Before e) same is
    first is x (inr h) = before_trans e d x is (r.0 x h)

    among : Before d e → (x : Extent) → In (e ∷ es) x → Before d x
    among is x (inl same) = subst (Before d) same is
    among is x (inr h) = r.0 x h

    second : Before d e → ComesFirst d (placed_among e es)
    second is x h = among is x (among_in e es x h)

by_begin_in : (es : List Extent) → Within (by_begin es) es
by_begin_in [] x h = h
by_begin_in (e ∷ es) x h = below e (by_begin es) es (by_begin_in es) x (among_in e (by_begin es) x h)

in_by_begin : (es : List Extent) → Within es (by_begin es)
in_by_begin [] x h = h
in_by_begin (e ∷ es) x h = in_among e (by_begin es) x (below e es (by_begin es) (in_by_begin es) x h)

later : (m n : ℕ) (es : List Extent) → m < n → NumberedFrom n es → (x : Extent) → In es x → m < x.variable
later m n [] less h x there = absurd there
later m n (e ∷ es) less h x (inl same) = omega (arith, less, h.0, ap (λ (y : Extent). y.variable) same)
later m n (e ∷ es) less h x (inr there) = later m (suc n) es (omega (arith, less)) h.1 x there

by_begin_rises : (n : ℕ) (es : List Extent) → NumberedFrom n es → Rises (by_begin es)
by_begin_rises n [] h = tt
by_begin_rises n (e ∷ es) h =
    among_rises e (by_begin es) (by_begin_rises (suc n) es h.1)
    (λ x there same. omega (arith, later n (suc n) es (omega arith) h.1 x (by_begin_in es x there), h.0, same))

-- ---- the list by a sort

number_below : (n : ℕ) (es : List Extent) (x : Extent) → NumberedFrom n es → In es x → x.variable < n + length es
number_below n [] x h there = absurd there
number_below n (e ∷ es) x h (inl same) = omega (arith, h.0, ap (λ (y : Extent). y.variable) same)
number_below n (e ∷ es) x h (inr there) = omega (arith, number_below (suc n) es x h.1 there)

abbrev same_variable : Extent → Extent → Bool
same_variable d e = d.variable == e.variable

flips : (d e : Extent) → same_variable d e ≡ same_variable e d
flips d e = grind arith

later_differ : (m n : ℕ) (es : List Extent) → m < n → NumberedFrom n es → AllByRecursion (λ e. (m == e.variable) ≡ false) es
later_differ m n [] less h = tt
later_differ m n (e ∷ es) less h = (grind (arith, h.0, less), later_differ m (suc n) es (omega (arith, less)) h.1)

numbers_differ : (n : ℕ) (es : List Extent) → NumberedFrom n es → IsDistinct same_variable es
unfolding IsDistinct
numbers_differ n [] h = tt
numbers_differ n (e ∷ es) h = IsDistinct-cons same_variable e es (later_differ e.variable (suc n) es (omega (arith, h.0)) h.1) (numbers_differ (suc n) es h.1)

by_rank : (d e : Extent) → d.variable < 2 ^ 64 → e.variable < 2 ^ 64 → rank d ≤ rank e → (d.variable ≡ e.variable → ⊥) → Before d e
by_rank d e h k le other = by_begins (cases_lt d.begin e.begin) (cases_lt d.variable e.variable)
  where
    by_begins : (d.begin < e.begin) ⊎ (e.begin ≤ d.begin) → (d.variable < e.variable) ⊎ (e.variable ≤ d.variable) → Before d e
    by_begins (inl l) m = inl l
    by_begins (inr l) (inl m) = inr (omega (arith, h, k, le, l), m)
    by_begins (inr l) (inr m) = absurd (other (omega (arith, h, k, le, l, m)))

sorted_rises : (ys : List Extent) → IsNonDecreasingBy rank ys → IsDistinct same_variable ys → ((x : Extent) → In ys x → x.variable < 2 ^ 64) → Rises ys
sorted_rises [] sorted distinct few = tt
sorted_rises (y ∷ ys) sorted distinct few =
    (first, sorted_rises ys (λ i j d le under. sorted (suc i) (suc j) d (omega (arith, le)) (omega (arith, under))) (IsDistinct-tail same_variable y ys distinct) (λ x h. few x (inr h)))
  where
    ranked : (x : Extent) → In ys x → rank y ≤ rank x
    ranked x h =
        let place = contains_from_in ys x h in
        omega (arith, sorted 0 (suc place.0) x (omega arith) (omega (arith, place.1)), ap rank place.2)

    first : ComesFirst y ys
    first x h = by_rank y x (few y (inl refl)) (few x (inr h)) (ranked x h)
        (eqb-false y.variable x.variable (all_in (λ (e : Extent). same_variable y e ≡ false) ys x (IsDistinct-head same_variable y ys distinct) h))

moved : (xs ys : List Extent) → IsPermutation xs ys → Within xs ys
moved xs ys p x h = in_from_contains ys x (Contains-permutation xs ys x p (contains_from_in xs x h))

-- what a sort by rank leaves
pub sorted_is : (es ys : List Extent) → IsPermutation es ys → NumberedFrom 0 es → length es ≤ 2 ^ 63 → IsNonDecreasingBy rank ys → ys ≡ by_begin es
sorted_is es ys p numbered few sorted =
    let back = IsPermutation-sym es ys p in
    let distinct = IsDistinct-IsPermutation same_variable flips es ys p (numbers_differ 0 es numbered) in
    one_list ys (by_begin es)
    (sorted_rises ys sorted distinct (λ x h. omega (arith, number_below 0 es x numbered (moved ys es back x h), few)))
    (by_begin_rises 0 es numbered)
    (λ x h. in_by_begin es x (moved ys es back x h))
    (λ x h. moved es ys p x (by_begin_in es x h))

-- ---- what that list is

permuted_cond : (b : Bool) (xs ys zs : List Extent) → IsPermutation xs ys → IsPermutation xs zs → IsPermutation xs (if b then ys else zs)
permuted_cond true xs ys zs p q = p
permuted_cond false xs ys zs p q = q

permuted_among : (e : Extent) (es : List Extent) → IsPermutation (e ∷ es) (placed_among e es)
permuted_among e [] = IsPermutation-refl (e ∷ [])
permuted_among e (d ∷ es) = permuted_cond (comes_before e d) (e ∷ d ∷ es) (e ∷ d ∷ es) (d ∷ placed_among e es) (IsPermutation-refl (e ∷ d ∷ es))
    (IsPermutation-trans (e ∷ d ∷ es) (d ∷ e ∷ es) (d ∷ placed_among e es)
    (IsPermutation-middle (e ∷ []) d es)
    (IsPermutation-cons d (e ∷ es) (placed_among e es) (permuted_among e es)))

pub permuted : (es : List Extent) → IsPermutation es (by_begin es)
permuted [] = IsPermutation-refl []
permuted (e ∷ es) = IsPermutation-trans (e ∷ es) (e ∷ by_begin es) (placed_among e (by_begin es))
    (IsPermutation-cons e es (by_begin es) (permuted es))
    (permuted_among e (by_begin es))

order_from : (d : Extent) (es : List Extent) → ComesFirst d es → Rises es → InOrderFrom d es
order_from d [] first r = tt
order_from d (e ∷ es) first r = (first e (inl refl), order_from e es r.0 r.1)

in_order : (es : List Extent) → Rises es → InOrder es
in_order [] r = tt
in_order (d ∷ es) r = order_from d es r.0 r.1

pub ordered : (es : List Extent) → NumberedFrom 0 es → InOrder (by_begin es)
ordered es h = in_order (by_begin es) (by_begin_rises 0 es h)

-- ---- the extents of a schema

pub numbered : (dims : List Dim) (n : ℕ) (vars : List Var) (places : List Place) → NumberedFrom n (extents_from dims n vars places)
numbered dims n [] places = tt
numbered dims n (x ∷ vars) [] = tt
numbered dims n (x ∷ vars) (p ∷ places) = (refl, numbered dims (suc n) vars places)

-- they are the numbers of the variables
pub variables_of : (dims : List Dim) (n : ℕ) (vars : List Var) (places : List Place) → length places ≡ length vars
    → map (λ e. e.variable) (extents_from dims n vars places) ≡ range_with_len n (length vars)
variables_of dims n [] places long = refl
variables_of dims n (x ∷ vars) [] long = absurd (omega (arith, long))
variables_of dims n (x ∷ vars) (p ∷ places) long = ap (λ xs. n ∷ xs) (variables_of dims (suc n) vars places (omega (arith, long)) ∙ ap (λ k. range_with_len k (length vars)) (omega arith))

pub numbers_permuted : (es : List Extent) (numbers : List ℕ) → map (λ e. e.variable) es ≡ numbers → IsPermutation numbers (map (λ e. e.variable) (by_begin es))
numbers_permuted es numbers are = subst (λ xs. IsPermutation xs (map (λ e. e.variable) (by_begin es))) are (IsPermutation-map (λ e. e.variable) es (by_begin es) (permuted es))
