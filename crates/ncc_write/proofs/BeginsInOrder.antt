-- Numbered extents that are in turn: a later one of a kind doesn't begin before an earlier one.
use Rattle.std.proofs.Common.{◌≡◌, ℕ, zero, suc, ◌≤◌, ◌<◌, Bool, true, false, cond, not, List, [], ◌∷◌, length, get_or, refl, sym, ap, subst, ◌∙◌, arith, ◌⊎◌, inl, inr}
use Rattle.std.specs.Prelude.{AllPairs, Contains, filter}
use Rattle.std.specs.List.{AllByRecursion}
use Rattle.std.proofs.lemmas.Bool.{not_from_false}
use Rattle.std.proofs.lemmas.List.Elements.{All-contains, All-from_recursion}
use Rattle.ncc_layout.specs.declared.extent.Extent.{Extent}
use Rattle.ncc_layout.specs.Extents.{NumberedFrom, fixed_of, records_of}
use Rattle.ncc_layout.specs.Standard.{AreInTurn}

-- an extent of these, by recursion
abbrev In : List Extent → Extent → Type 0
In [] e = ⊥
In (x ∷ es) e = (x ≡ e) ⊎ In es e

in_from_contains : (es : List Extent) (e : Extent) → Contains es e → In es e
in_from_contains [] e (k, below, is) = absurd (omega (arith, below))
in_from_contains (x ∷ es) e (zero, below, is) = inl is
in_from_contains (x ∷ es) e (suc k, below, is) = inr (in_from_contains es e (k, omega (arith, below), is))

-- ---- numbers

numbered_behind : (n : ℕ) (es : List Extent) (e : Extent) → NumberedFrom n es → In es e → n ≤ e.variable
numbered_behind n [] e h there = absurd there
numbered_behind n (x ∷ es) e h (inl is) = let same : x.variable ≡ e.variable =
    ap (λ (y : Extent). y.variable) is in omega (arith, same, h.0)
numbered_behind n (x ∷ es) e h (inr there) = omega (arith, numbered_behind (suc n) es e h.1 there)

-- ---- pairs

abbrev VarSlab : Extent → Extent → Type 0
VarSlab d e = d.begin ≤ e.begin

-- by recursion: the first begins no later than each after it
abbrev VarSlabs : List Extent → Type 0
VarSlabs [] = Unit {0}
VarSlabs (x ∷ es) = ((e : Extent) → In es e → x.begin ≤ e.begin) × VarSlabs es

from_pairs : (es : List Extent) → AllPairs VarSlab es → VarSlabs es
from_pairs [] pairs = tt
from_pairs (x ∷ es) pairs = (
  first x es pairs,
  from_pairs es
      (λ i j d less below. pairs (suc i) (suc j) d (omega (arith, less)) (omega (arith, below))),
)
  where
    at : (x : Extent) (es : List Extent) → ((j : ℕ) (d : Extent) → j < length es → x.begin ≤ (get_or es j d).begin)
        → (e : Extent) → In es e → x.begin ≤ e.begin
    at x [] h e there = absurd there
    at x (y ∷ es) h e (inl is) = subst (λ (z : Extent). x.begin ≤ z.begin) is (h 0 x (omega arith))
    at x (y ∷ es) h e (inr there) = at x es (λ j d below. h (suc j) d (omega (arith, below))) e there

    first : (x : Extent) (es : List Extent) → AllPairs VarSlab (x ∷ es) → (e : Extent) → In es e → x.begin ≤ e.begin
    first x es pairs e there = at x es (λ j d below. pairs 0 (suc j) d (omega arith) (omega (arith, below))) e there

-- ---- of one kind

module _ (p : Extent → Bool) where
  kept_later : (b : Bool) (x : Extent) (es : List Extent) (e : Extent) → In es e → In (cond b (x ∷ es) es) e
  kept_later true x es e there = inr there
  kept_later false x es e there = there

  kept_first : (b : Bool) (x : Extent) (es : List Extent) (e : Extent) → b ≡ true → x ≡ e → In (cond b (x ∷ es) es) e
  kept_first true x es e t is = inl is
  kept_first false x es e t is = absurd cc

  in_filter : (es : List Extent) (e : Extent) → p e ≡ true → In es e → In (filter p es) e
  in_filter [] e h there = absurd there
  in_filter (x ∷ es) e h (inl is) = kept_first (p x) x (filter p es) e (ap p is ∙ h) is
  in_filter (x ∷ es) e h (inr there) = kept_later (p x) x (filter p es) e (in_filter es e h there)

  var_slabs_later : (b : Bool) (x : Extent) (es : List Extent) → VarSlabs (cond b (x ∷ es) es) → VarSlabs es
  var_slabs_later true x es h = h.1
  var_slabs_later false x es h = h

  var_slabs_first : (b : Bool) (x : Extent) (es : List Extent) → b ≡ true → VarSlabs (cond b (x ∷ es) es) → (e : Extent)
      → In es e → x.begin ≤ e.begin
  var_slabs_first true x es t h = h.0
  var_slabs_first false x es t h = absurd cc

  in_turn : (n : ℕ) (es : List Extent) → NumberedFrom n es → VarSlabs (filter p es) → (d e : Extent) → In es d → In es e
      → p d ≡ true → p e ≡ true → d.variable < e.variable → d.begin ≤ e.begin
  in_turn n [] h var_slabs d e m k kind also less = absurd m
  in_turn n (x ∷ es) h var_slabs d e (inl is) (inl it) kind also less =
      let same : d.variable ≡ e.variable = ap (λ (y : Extent). y.variable) (sym is ∙ it) in
      absurd (omega (arith, less, same))
  in_turn n (x ∷ es) h var_slabs d e (inl is) (inr k) kind also less =
      let begin : x.begin ≡ d.begin = ap (λ (y : Extent). y.begin) is in
      omega (arith, begin, var_slabs_first (p x) x (filter p es) (ap p is ∙ kind) var_slabs e (in_filter es e also k))
  in_turn n (x ∷ es) h var_slabs d e (inr m) (inl it) kind also less =
      let same : x.variable ≡ e.variable = ap (λ (y : Extent). y.variable) it in
      absurd (omega (arith, less, same, h.0, numbered_behind (suc n) es d h.1 m))
  in_turn n (x ∷ es) h var_slabs d e (inr m) (inr k) kind also less =
      in_turn (suc n) es h.1 (var_slabs_later (p x) x (filter p es) var_slabs) d e m k kind also less

-- ---- of both kinds

by_kind : (n : ℕ) (es : List Extent) (b : Bool) → NumberedFrom n es → AreInTurn es → (d e : Extent) → In es d
    → In es e → d.is_record ≡ b → e.is_record ≡ b → d.variable < e.variable → d.begin ≤ e.begin
by_kind n es true numbered var_slab d e m k kind also less =
    in_turn (λ (y : Extent). y.is_record) n es numbered
    (from_pairs (records_of es) var_slab.records) d e m k kind also less
by_kind n es false numbered var_slab d e m k kind also less =
    in_turn (λ (y : Extent). not y.is_record) n es numbered (from_pairs (fixed_of es) var_slab.fixed) d e m k
    (not_from_false d.is_record kind) (not_from_false e.is_record also) less

pub later_begins_later : (n : ℕ) (es : List Extent) → NumberedFrom n es → AreInTurn es → (d e : Extent)
    → Contains es d → Contains es e → d.variable < e.variable → d.is_record ≡ e.is_record → d.begin ≤ e.begin
later_begins_later n es numbered var_slab d e m k less kind =
    by_kind n es d.is_record numbered var_slab d e (in_from_contains es d m) (in_from_contains es e k) refl
    (sym kind) less

-- ---- begins

pub each_of : (P : Extent → Type 0) (es : List Extent) (e : Extent) → AllByRecursion P es → Contains es e → P e
each_of P es e all there = All-contains P es e (All-from_recursion P es all) there
