-- Extents in order: the first that begins before the one before it ends is the first that shares a byte.
use Rattle.std.proofs.Common.{ℕ, ◌<◌, ◌≤◌, List, [], ◌∷◌, refl, sym, ap, subst, arith, ◌⊎◌, inl, inr}
use Rattle.std.specs.Prelude.{Contains}
use Rattle.std.specs.List.{AllByRecursion}
use Rattle.std.specs.List.Sorted.{IsPermutation}
use Rattle.std.proofs.lemmas.Bool.{cases_lt}
use Rattle.std.proofs.lemmas.List.Sorted.{Contains-permutation, IsPermutation-sym}
use Rattle.ncc_layout.specs.declared.extent.Extent.{Extent}
use Rattle.ncc_layout.specs.Extents.{end}
use Rattle.ncc_layout.specs.Rules.Overlap.{Apart}
use Rattle.ncc_layout.specs.Rules.Overlap.{Before, InOrderFrom, InOrder, FirstInsideFrom, FirstInside, FirstShared}
use Rattle.ncc_layout.proofs.Membership.{In, in_from_contains, contains_from_in}
use Rattle.ncc_layout.proofs.OneFault.{one_shared, not_before_itself}

-- ---- the order

before_trans : (c d e : Extent) → Before c d → Before d e → Before c e
before_trans c d e (inl a) (inl b) = inl (omega (arith, a, b))
before_trans c d e (inl a) (inr b) = inl (omega (arith, a, b.0))
before_trans c d e (inr a) (inl b) = inl (omega (arith, a.0, b))
before_trans c d e (inr a) (inr b) = inr (omega (arith, a.0, b.0), omega (arith, a.1, b.1))

begin_le : (d e : Extent) → Before d e → d.begin ≤ e.begin
begin_le d e (inl a) = omega (arith, a)
begin_le d e (inr a) = omega (arith, a.0)

all_later : (d : Extent) (es : List Extent) → InOrderFrom d es → (e : Extent) → In es e → Before d e
all_later d [] order e there = absurd there
all_later d (x ∷ es) order e (inl same) = subst (Before d) same order.0
all_later d (x ∷ es) order e (inr there) = before_trans d x e order.0 (all_later x es order.1 e there)

none_sooner : (d : Extent) (es : List Extent) → InOrderFrom d es → (e : Extent) → In (d ∷ es) e → Before e d → ⊥
none_sooner d es order e (inl same) before = not_before_itself d (subst (λ (x : Extent). Before x d) (sym same) before)
none_sooner d es order e (inr there) before = not_before_itself d (before_trans d e d (all_later d es order e there) before)

begins_later : (d : Extent) (es : List Extent) → InOrderFrom d es → (e : Extent) → In (d ∷ es) e → d.begin ≤ e.begin
begins_later d es order e (inl same) = omega (arith, ap (λ (x : Extent). x.begin) same)
begins_later d es order e (inr there) = begin_le d e (all_later d es order e there)

apart_after : (d e : Extent) → end d ≤ e.begin → Apart d e
apart_after d e after byte p q r s = omega (arith, after, q, r)

-- ---- one extent before others in order

module _ (d e : Extent) (es : List Extent) (order : InOrderFrom d (e ∷ es)) where
  -- two in order, of which the second isn't before its rest
  both_further : (u v : Extent) → In (d ∷ e ∷ es) u → In (d ∷ e ∷ es) v → Before u v → end d ≤ e.begin → ((x y : Extent) → In (e ∷ es) x → In (e ∷ es) y → Before x y → Apart x y) → Apart u v
  both_further u v h (inl same) before after rest = absurd (none_sooner d (e ∷ es) order u h (subst (Before u) (sym same) before))
  both_further u v (inl same) (inr k) before after rest =
      let gap : end d ≤ v.begin = omega (arith, after, begins_later e es order.1 v k) in
      subst (λ (x : Extent). Apart x v) same (apart_after d v gap)
  both_further u v (inr h) (inr k) before after rest = rest u v h k before

  further : end d ≤ e.begin → (n : ℕ) → FirstShared (e ∷ es) n → FirstShared (d ∷ e ∷ es) n
  further after n f = record {
    earlier = f.earlier;
    later = f.later;
    earlier_there = contains_from_in (d ∷ e ∷ es) f.earlier (inr (in_from_contains (e ∷ es) f.earlier f.earlier_there));
    later_there = contains_from_in (d ∷ e ∷ es) f.later (inr (in_from_contains (e ∷ es) f.later f.later_there));
    number_is = f.number_is;
    ordered = f.ordered;
    shared = f.shared;
    first = λ u v h k before last. first_of u v (in_from_contains (d ∷ e ∷ es) u h) (in_from_contains (d ∷ e ∷ es) v k) before last;
  }
    where
      first_of : (u v : Extent) → In (d ∷ e ∷ es) u → In (d ∷ e ∷ es) v → Before u v → Before v f.later → Apart u v
      first_of u v h (inl same) before last = absurd (none_sooner d (e ∷ es) order u h (subst (Before u) (sym same) before))
      first_of u v (inl same) (inr k) before last =
          let gap : end d ≤ v.begin = omega (arith, after, begins_later e es order.1 v k) in
          subst (λ (x : Extent). Apart x v) same (apart_after d v gap)
      first_of u v (inr h) (inr k) before last = f.first u v (contains_from_in (e ∷ es) u h) (contains_from_in (e ∷ es) v k) before last

  -- none of the list comes between the first two
  none_between : (u v : Extent) → In (d ∷ e ∷ es) u → In (d ∷ e ∷ es) v → Before u v → Before v e → ⊥
  none_between u v h (inl same) before last = none_sooner d (e ∷ es) order u h (subst (Before u) (sym same) before)
  none_between u v h (inr k) before last = none_sooner e es order.1 v k last

  here : 0 < e.slab → e.begin < end d → FirstShared (d ∷ e ∷ es) e.variable
  here bytes inside = record {
    earlier = d;
    later = e;
    earlier_there = contains_from_in (d ∷ e ∷ es) d (inl refl);
    later_there = contains_from_in (d ∷ e ∷ es) e (inr (inl refl));
    number_is = refl;
    ordered = order.0;
    shared = λ apart. apart e.begin (begin_le d e order.0) inside (omega arith) (omega (arith, bytes));
    first = λ u v h k before last. absurd (none_between u v (in_from_contains (d ∷ e ∷ es) u h) (in_from_contains (d ∷ e ∷ es) v k) before last);
  }

-- ---- from neighbours to all, and back

shared_from : (d : Extent) (es : List Extent) (n : ℕ) → AllByRecursion (λ e. 0 < e.slab) es → InOrderFrom d es → FirstInsideFrom d es n → FirstShared (d ∷ es) n
shared_from d [] n bytes order h = absurd h
shared_from d (e ∷ es) n bytes order (inl h) = subst (FirstShared (d ∷ e ∷ es)) h.1 (here d e es order bytes.0 h.0)
shared_from d (e ∷ es) n bytes order (inr h) = further d e es order h.0 n (shared_from e es n bytes.1 order.1 h.1)

abbrev pub ChainedFrom : Extent → List Extent → Type 0
ChainedFrom d [] = Unit {0}
ChainedFrom d (e ∷ es) = (end d ≤ e.begin) × ChainedFrom e es

found : (d : Extent) (es : List Extent) → ChainedFrom d es ⊎ ((n : ℕ) × FirstInsideFrom d es n)
found d [] = inl tt
found d (e ∷ es) = by_order (cases_lt e.begin (end d)) (found e es)
  where
    by_order : (e.begin < end d) ⊎ (end d ≤ e.begin) → ChainedFrom e es ⊎ ((n : ℕ) × FirstInsideFrom e es n) → ChainedFrom d (e ∷ es) ⊎ ((n : ℕ) × FirstInsideFrom d (e ∷ es) n)
    by_order (inl less) rest = inr (e.variable, inl (less, refl))
    by_order (inr after) (inl chained) = inl (after, chained)
    by_order (inr after) (inr later) = inr (later.0, inr (after, later.1))

pub chained_apart : (d : Extent) (es : List Extent) → InOrderFrom d es → ChainedFrom d es → (u v : Extent) → In (d ∷ es) u → In (d ∷ es) v → Before u v → Apart u v
chained_apart d [] order chained u v (inl same) (inl also) before = absurd (not_before_itself d (subst (λ (x : Extent). Before x d) (sym same) (subst (Before u) (sym also) before)))
chained_apart d [] order chained u v (inl same) (inr k) before = absurd k
chained_apart d [] order chained u v (inr h) k before = absurd h
chained_apart d (e ∷ es) order chained u v h k before = both_further d e es order u v h k before chained.0 (chained_apart e es order.1 chained.1)

inside_from : (d : Extent) (es : List Extent) (n : ℕ) → AllByRecursion (λ e. 0 < e.slab) es → InOrderFrom d es → FirstShared (d ∷ es) n → FirstInsideFrom d es n
inside_from d es n bytes order h = by_search (found d es)
  where
    by_search : ChainedFrom d es ⊎ ((m : ℕ) × FirstInsideFrom d es m) → FirstInsideFrom d es n
    by_search (inl chained) =
        absurd (h.shared (chained_apart d es order chained h.earlier h.later (in_from_contains (d ∷ es) h.earlier h.earlier_there) (in_from_contains (d ∷ es) h.later h.later_there) h.ordered))
    by_search (inr other) = subst (FirstInsideFrom d es) (one_shared (d ∷ es) other.0 n (shared_from d es other.0 bytes order other.1) h) other.1

none_shared : (n : ℕ) → FirstShared [] n → ⊥
none_shared n h = in_from_contains [] h.earlier h.earlier_there

pub shared : (es : List Extent) (n : ℕ) → AllByRecursion (λ e. 0 < e.slab) es → InOrder es → FirstInside es n → FirstShared es n
shared [] n bytes order h = absurd h
shared (d ∷ es) n bytes order h = shared_from d es n bytes.1 order h

inside : (es : List Extent) (n : ℕ) → AllByRecursion (λ e. 0 < e.slab) es → InOrder es → FirstShared es n → FirstInside es n
inside [] n bytes order h = none_shared n h
inside (d ∷ es) n bytes order h = inside_from d es n bytes.1 order h

-- ---- in whatever order the list is

pub moved_shared : (xs ys : List Extent) (n : ℕ) → ((e : Extent) → Contains xs e → Contains ys e) → ((e : Extent) → Contains ys e → Contains xs e) → FirstShared xs n → FirstShared ys n
moved_shared xs ys n to back f = record {
  earlier = f.earlier;
  later = f.later;
  earlier_there = to f.earlier f.earlier_there;
  later_there = to f.later f.later_there;
  number_is = f.number_is;
  ordered = f.ordered;
  shared = f.shared;
  first = λ u v h k before last. f.first u v (back u h) (back v k) before last;
}

module _ (es sorted : List Extent) (n : ℕ) (bytes : AllByRecursion (λ e. 0 < e.slab) sorted) (moved : IsPermutation es sorted) (order : InOrder sorted) where
  to : (e : Extent) → Contains es e → Contains sorted e
  to e = Contains-permutation es sorted e moved

  back : (e : Extent) → Contains sorted e → Contains es e
  back e = Contains-permutation sorted es e (IsPermutation-sym es sorted moved)

  pub shared_by_neighbours : FirstInside sorted n → FirstShared es n
  shared_by_neighbours h = moved_shared sorted es n back to (shared sorted n bytes order h)

  pub neighbours_by_shared : FirstShared es n → FirstInside sorted n
  neighbours_by_shared h = inside sorted n bytes order (moved_shared es sorted n to back h)
