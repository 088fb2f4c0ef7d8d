-- Extents in the order of begin and number: which share a byte is told by neighbours of one kind.
use Rattle.std.proofs.Common.{◌≡◌, ℕ, ◌^◌, ◌<◌, ◌≤◌, Bool, true, false, not, cond, List, [], ◌∷◌, Option, Some, None, zero, suc, length, get_or, refl, sym, ap, subst, ◌∙◌, arith, ◌⊎◌, inl, inr}
use Rattle.std.specs.Prelude.{Contains, filter, ltb, ◌==◌}
use Rattle.std.specs.List.{AllByRecursion, IsDistinct}
use Rattle.std.specs.Option.{option_or}
use Rattle.std.specs.List.Sorted.{IsPermutation, IsNonDecreasingBy}
use Rattle.std.proofs.lemmas.Bool.{cases_lt, le-ltb, ltb-false, ltb-true}
use Rattle.std.proofs.lemmas.List.Elements.{All-from_recursion, recursion_from_All}
use Rattle.std.proofs.lemmas.List.Sorted.{All-permutation, Contains-permutation, IsPermutation-sym}
use Rattle.std.proofs.lemmas.Map.Keys.{IsDistinct-IsPermutation, IsDistinct-head, IsDistinct-tail}
use Rattle.ncc_layout.specs.declared.extent.Extent.{Extent}
use Rattle.ncc_layout.specs.Extents.{end, fixed_of, records_of}
use Rattle.ncc_layout.specs.Rules.Overlap.{Apart, NoOverlap, Before, FirstInsideFrom, FirstInside, FirstShared, InOrder, InOrderFrom, Overlaps}
use Rattle.ncc_layout.specs.Bounds.{rank, HasBytes, AreNumbered, inside, inside_from}
use Rattle.ncc_layout.proofs.Membership.{in_from_contains, contains_from_in, filter_in, in_filter, all_filter}
use Rattle.ncc_layout.proofs.Neighbours.{ChainedFrom, chained_apart, shared, moved_shared}

-- ---- the order

abbrev same_variable : Extent → Extent → Bool
same_variable d e = d.variable == e.variable

flips : (d e : Extent) → same_variable d e ≡ same_variable e d
flips d e = grind arith

before_from_rank : (d e : Extent) → d.variable < 2 ^ 64 → e.variable < 2 ^ 64 → rank d < rank e → Before d e
before_from_rank d e h k less = by_begin (cases_lt d.begin e.begin)
  where
    by_begin : (d.begin < e.begin) ⊎ (e.begin ≤ d.begin) → Before d e
    by_begin (inl l) = inl l
    by_begin (inr l) = inr (omega (arith, h, k, less, l), omega (arith, h, k, less, l))

distinct_at : {A : Type 0} (e : A → A → Bool) (xs : List A) → IsDistinct e xs → (a b : ℕ) (d : A) → a < b → b < length xs → e (get_or xs a d) (get_or xs b d) ≡ false
distinct_at e [] h a b d less below = absurd (omega (arith, below))
distinct_at e (x ∷ xs) h a zero d less below = absurd (omega (arith, less))
distinct_at e (x ∷ xs) h zero (suc b) d less below = All-from_recursion (λ y. e x y ≡ false) xs (IsDistinct-head e x xs h) b d (omega (arith, below))
distinct_at e (x ∷ xs) h (suc a) (suc b) d less below = distinct_at e xs (IsDistinct-tail e x xs h) a b d (omega (arith, less)) (omega (arith, below))

-- each comes before all that follow it
abbrev Rising : List Extent → Type 0
Rising [] = Unit {0}
Rising (d ∷ es) = AllByRecursion (Before d) es × Rising es

rising_at : (ys : List Extent) → ((a b : ℕ) (d : Extent) → a < b → b < length ys → Before (get_or ys a d) (get_or ys b d)) → Rising ys
rising_at [] h = tt
rising_at (y ∷ ys) h = (
  recursion_from_All (Before y) ys (λ k d below. h 0 (suc k) d (omega arith) (omega (arith, below))),
  rising_at ys (λ a b d less below. h (suc a) (suc b) d (omega (arith, less)) (omega (arith, below))),
)

rising_kept : (b : Bool) (d : Extent) (es : List Extent) → AllByRecursion (Before d) es → Rising es → Rising (cond b (d ∷ es) es)
rising_kept true d es h k = (h, k)
rising_kept false d es h k = k

rising_filter : (p : Extent → Bool) (es : List Extent) → Rising es → Rising (filter p es)
rising_filter p [] h = tt
rising_filter p (d ∷ es) h = rising_kept (p d) d (filter p es) (all_filter (Before d) p es h.0) (rising_filter p es h.1)

in_order_from : (d : Extent) (es : List Extent) → Rising (d ∷ es) → InOrderFrom d es
in_order_from d [] h = tt
in_order_from d (e ∷ es) h = (h.0.0, in_order_from e es h.1)

in_order : (es : List Extent) → Rising es → InOrder es
in_order [] h = tt
in_order (d ∷ es) h = in_order_from d es h

-- ---- what the search for one inside the one before it found

some_inside : (d : Extent) (es : List Extent) (n : ℕ) → inside_from (end d) es ≡ Some n → FirstInsideFrom d es n
some_inside d [] n h = absurd cc
some_inside d (e ∷ es) n h = by_test (some_inside e es n) (ltb e.begin (end d)) refl h
  where
    by_test : (inside_from (end e) es ≡ Some n → FirstInsideFrom e es n) → (b : Bool) → ltb e.begin (end d) ≡ b → cond b (Some e.variable) (inside_from (end e) es) ≡ Some n → FirstInsideFrom d (e ∷ es) n
    by_test rest true t k = inl (ltb-true e.begin (end d) t, cc)
    by_test rest false t k = inr (ltb-false e.begin (end d) t, rest k)

none_inside : (d : Extent) (es : List Extent) → inside_from (end d) es ≡ None → ChainedFrom d es
none_inside d [] h = tt
none_inside d (e ∷ es) h = by_test (none_inside e es) (ltb e.begin (end d)) refl h
  where
    by_test : (inside_from (end e) es ≡ None → ChainedFrom e es) → (b : Bool) → ltb e.begin (end d) ≡ b → cond b (Some e.variable) (inside_from (end e) es) ≡ None → ChainedFrom d (e ∷ es)
    by_test rest true t k = absurd cc
    by_test rest false t k = (ltb-false e.begin (end d) t, rest k)

-- nothing begins before offset 0
at_start : (d : Extent) (es : List Extent) → inside_from 0 (d ∷ es) ≡ inside_from (end d) es
at_start d es = ap (λ (b : Bool). cond b (Some d.variable) (inside_from (end d) es)) (le-ltb d.begin 0 (omega arith))

first_inside : (es : List Extent) (n : ℕ) → inside_from 0 es ≡ Some n → FirstInside es n
first_inside [] n h = absurd cc
first_inside (d ∷ es) n h = some_inside d es n (sym (at_start d es) ∙ h)

-- ---- extents one after another

in_turn : (d : Extent) (es : List Extent) → AllByRecursion (λ e. 0 < e.slab) (d ∷ es) → ChainedFrom d es → InOrderFrom d es
in_turn d [] bytes chained = tt
in_turn d (e ∷ es) bytes chained = (inl (omega (arith, bytes.0, chained.0)), in_turn e es bytes.1 chained.1)

no_overlap : (es : List Extent) → AllByRecursion (λ e. 0 < e.slab) es → inside_from 0 es ≡ None → NoOverlap es
no_overlap [] bytes h u v there also other = absurd (in_from_contains [] u there)
no_overlap (d ∷ es) bytes h u v there also other = by_order (cases_lt u.begin v.begin) (cases_lt v.begin u.begin) (cases_lt u.variable v.variable) (cases_lt v.variable u.variable)
  where
    chained : ChainedFrom d es
    chained = none_inside d es (sym (at_start d es) ∙ h)

    apart : (x y : Extent) → Contains (d ∷ es) x → Contains (d ∷ es) y → Before x y → Apart x y
    apart x y i j before = chained_apart d es (in_turn d es bytes chained) chained x y (in_from_contains (d ∷ es) x i) (in_from_contains (d ∷ es) y j) before

    flip : Apart v u → Apart u v
    flip f byte a b c g = f byte c g a b

    by_order : (u.begin < v.begin) ⊎ (v.begin ≤ u.begin) → (v.begin < u.begin) ⊎ (u.begin ≤ v.begin) → (u.variable < v.variable) ⊎ (v.variable ≤ u.variable) → (v.variable < u.variable) ⊎ (u.variable ≤ v.variable) → Apart u v
    by_order (inl a) b c f = apart u v there also (inl a)
    by_order (inr a) (inl b) c f = flip (apart v u also there (inl b))
    by_order (inr a) (inr b) (inl c) f = apart u v there also (inr (omega (arith, a, b), c))
    by_order (inr a) (inr b) (inr c) (inl f) = flip (apart v u also there (inr (omega (arith, a, b), f)))
    by_order (inr a) (inr b) (inr c) (inr f) = absurd (other (omega (arith, c, f)))

-- ---- those of one kind, of a list in another order

module _ (xs ys : List Extent) (moved : IsPermutation xs ys) (p : Extent → Bool) where
  to : (e : Extent) → Contains (filter p xs) e → Contains (filter p ys) e
  to e h =
      let there = filter_in p xs e (in_from_contains (filter p xs) e h) in
      contains_from_in (filter p ys) e (in_filter p ys e there.1 (in_from_contains ys e (Contains-permutation xs ys e moved (contains_from_in xs e there.0))))

has_bytes : (es : List Extent) → AllByRecursion HasBytes es → AllByRecursion (λ e. 0 < e.slab) es
has_bytes [] h = tt
has_bytes (e ∷ es) h = (h.0.0, has_bytes es h.1)

module _ (xs ys : List Extent) (moved : IsPermutation xs ys) (bytes : AllByRecursion HasBytes xs) (numbered : AreNumbered xs) (sorted : IsNonDecreasingBy rank ys) where
  bytes_at : (k : ℕ) (d : Extent) → k < length ys → HasBytes (get_or ys k d)
  bytes_at = All-permutation HasBytes xs ys moved (All-from_recursion HasBytes xs bytes)

  distinct : IsDistinct same_variable ys
  distinct = IsDistinct-IsPermutation same_variable flips xs ys moved numbered

  differ : (a b : ℕ) (d : Extent) → a < b → b < length ys → (get_or ys a d).variable ≡ (get_or ys b d).variable → ⊥
  differ a b d less below e =
      let other : same_variable (get_or ys a d) (get_or ys b d) ≡ false = distinct_at same_variable ys distinct a b d less below in
      grind (arith, other, e)

  rises : (a b : ℕ) (d : Extent) → a < b → b < length ys → Before (get_or ys a d) (get_or ys b d)
  rises a b d less below =
      let x = get_or ys a d in
      let y = get_or ys b d in
      by_rank x y (bytes_at a d (omega arith)).1 (bytes_at b d below).1 (sorted a b d (omega arith) below) (cases_lt (rank x) (rank y)) (differ a b d less below)
    where
      by_rank : (x y : Extent) → x.variable < 2 ^ 64 → y.variable < 2 ^ 64 → rank x ≤ rank y → (rank x < rank y) ⊎ (rank y ≤ rank x) → (x.variable ≡ y.variable → ⊥) → Before x y
      by_rank x y h k le (inl l) other = before_from_rank x y h k l
      by_rank x y h k le (inr l) other = absurd (other (omega (arith, h, k, le, l)))

  module _ (p : Extent → Bool) where
    slabs : AllByRecursion (λ e. 0 < e.slab) (filter p ys)
    slabs = has_bytes (filter p ys) (all_filter HasBytes p ys (recursion_from_All HasBytes ys bytes_at))

    back : IsPermutation ys xs
    back = IsPermutation-sym xs ys moved

    shared_of : (n : ℕ) → inside_from 0 (filter p ys) ≡ Some n → FirstShared (filter p xs) n
    shared_of n h =
        moved_shared (filter p ys) (filter p xs) n (to ys xs back p) (to xs ys moved p)
        (shared (filter p ys) n slabs (in_order (filter p ys) (rising_filter p ys (rising_at ys rises))) (first_inside (filter p ys) n h))

    apart_of : inside_from 0 (filter p ys) ≡ None → NoOverlap (filter p xs)
    apart_of h u v there also = no_overlap (filter p ys) slabs h u v (to xs ys moved p u there) (to xs ys moved p v also)

  -- ---- what the search found in their order

  found_by : (fixed records found : Option ℕ) → inside_from 0 (fixed_of ys) ≡ fixed → inside_from 0 (records_of ys) ≡ records → found ≡ option_or fixed records → Overlaps xs found
  found_by (Some n) records found h k is = subst (Overlaps xs) (sym is) (inl (shared_of (λ e. not e.is_record) n h))
  found_by None (Some n) found h k is = subst (Overlaps xs) (sym is) (inr (apart_of (λ e. not e.is_record) h, shared_of (λ e. e.is_record) n k))
  found_by None None found h k is = subst (Overlaps xs) (sym is) (apart_of (λ e. not e.is_record) h, apart_of (λ e. e.is_record) k)

  pub overlaps : (found : Option ℕ) → found ≡ inside ys → Overlaps xs found
  overlaps found is = found_by (inside_from 0 (fixed_of ys)) (inside_from 0 (records_of ys)) found refl refl is

-- ---- what it found in whichever order, if none

pub none_overlaps : (xs : List Extent) → AllByRecursion HasBytes xs → None ≡ inside xs → Overlaps xs None
none_overlaps xs bytes h = by_kinds (inside_from 0 (fixed_of xs)) (inside_from 0 (records_of xs)) refl refl h
  where
    slabs_of : (p : Extent → Bool) → AllByRecursion (λ e. 0 < e.slab) (filter p xs)
    slabs_of p = has_bytes (filter p xs) (all_filter HasBytes p xs bytes)

    by_kinds : (fixed records : Option ℕ) → inside_from 0 (fixed_of xs) ≡ fixed → inside_from 0 (records_of xs) ≡ records → None ≡ option_or fixed records → Overlaps xs None
    by_kinds (Some n) records f r k = absurd cc
    by_kinds None (Some n) f r k = absurd cc
    by_kinds None None f r k = (no_overlap (fixed_of xs) (slabs_of (λ e. not e.is_record)) f, no_overlap (records_of xs) (slabs_of (λ e. e.is_record)) r)
