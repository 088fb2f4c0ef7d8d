-- Products of lengths.
use Rattle.std.proofs.Common.{◌≡◌, ℕ, suc, ◌+◌, ◌*◌, ◌^◌, ◌<◌, ◌≤◌, List, [], ◌∷◌, map, length, get_or, drop, drop-cons, subst, Some, None, refl, sym, ap, ◌∙◌, arith, mul_comm}
use Rattle.std.proofs.Math.Nat.{mul_assoc}
use Rattle.std.proofs.lemmas.List.{get_or-map, drop_all}
use Rattle.std.specs.List.{AllByRecursion}
use Rattle.std.proofs.lemmas.Bool.{le-ltb, lt-ltb}
use Rattle.std.proofs.lemmas.Nat.{mul-le}
use Rattle.ncc_schema.specs.declared.schema.Dim.{Dim}
use Rattle.ncc_schema.specs.Schema.{IsFixed}
use Rattle.ncc_layout.specs.Sizes.{in_u64, length_of, product}
use Rattle.ncc_layout.proofs.Positive.{fixed_positive, product_positive}

pub in_u64-some : (n : ℕ) → n < 2 ^ 64 → in_u64 n ≡ Some n
in_u64-some n h = rw (lt-ltb _ _ h) refl

pub in_u64-none : (n : ℕ) → 2 ^ 64 ≤ n → in_u64 n ≡ None
in_u64-none n h = rw (le-ltb _ _ h) refl

turn : (l p b : ℕ) → l * p * b ≡ b * l * p
turn l p b = mul_comm (l * p) b ∙ sym (mul_assoc b l p)

-- ---- one length more

module _ (dims : List Dim) (ids : List ℕ) (i : ℕ) (below : i < length ids) (all : AllByRecursion (IsFixed dims) (drop i ids)) where
  abbrev here : ℕ
  here = get_or ids i 0

  abbrev rest : List ℕ
  rest = drop (i + 1) ids

  split : drop i ids ≡ here ∷ rest
  split =
      let next : suc i ≡ i + 1 = omega arith in
      drop-cons ids i 0 below ∙ ap (λ (n : ℕ). here ∷ drop n ids) next

  pub fixed_next : AllByRecursion (IsFixed dims) (here ∷ rest)
  fixed_next = subst (AllByRecursion (IsFixed dims)) split all

  -- the length as the program reads it
  pub long : (d : Dim) → (get_or dims here d).length ≡ length_of dims here
  long d = sym (get_or-map (λ (x : Dim). x.length) dims here d 0 fixed_next.0.0)

  product_next : (bytes : ℕ) → product (map (length_of dims) (drop i ids)) * bytes ≡ bytes * length_of dims here * product (map (length_of dims) rest)
  product_next bytes = ap (λ (l : List ℕ). product (map (length_of dims) l) * bytes) split ∙ turn (length_of dims here) (product (map (length_of dims) rest)) bytes

  pub overflows : (bytes : ℕ) (d : Dim) (total : ℕ) → product (map (length_of dims) (drop i ids)) * bytes ≡ total → (bytes * (get_or dims here d).length < 2 ^ 64 → ⊥) → None ≡ in_u64 total
  overflows bytes d total so_far long_product =
      let at_least = mul-le (bytes * length_of dims here) 1 (bytes * length_of dims here) (product (map (length_of dims) rest)) (omega arith) (product_positive dims rest fixed_next.1) in
      let same : bytes * (get_or dims here d).length ≡ bytes * length_of dims here = ap (λ (n : ℕ). bytes * n) (long d) in
      let reach : 2 ^ 64 ≤ bytes * (get_or dims here d).length = omega (arith, long_product) in
      sym (in_u64-none total (omega (arith, so_far, product_next bytes, at_least, same, reach)))

  pub goes_on : (bytes more : ℕ) (d : Dim) (total : ℕ) → product (map (length_of dims) (drop i ids)) * bytes ≡ total → more ≡ bytes * (get_or dims here d).length → product (map (length_of dims) rest) * more ≡ total
  goes_on bytes more d total so_far is =
      let same : more ≡ bytes * length_of dims here = is ∙ ap (λ (n : ℕ). bytes * n) (long d) in
      ap (λ (n : ℕ). product (map (length_of dims) rest) * n) same ∙ mul_comm (product (map (length_of dims) rest)) (bytes * length_of dims here) ∙ sym (product_next bytes) ∙ so_far

  pub stays_positive : (bytes more : ℕ) (d : Dim) → 0 < bytes → more ≡ bytes * (get_or dims here d).length → 0 < more
  stays_positive bytes more d positive is =
      let same : more ≡ bytes * length_of dims here = is ∙ ap (λ (n : ℕ). bytes * n) (long d) in
      omega (arith, same, mul-le 1 1 bytes (length_of dims here) positive (fixed_positive dims here fixed_next.0))

pub all_done : (dims : List Dim) (ids : List ℕ) (i bytes total : ℕ) → length ids ≤ i → product (map (length_of dims) (drop i ids)) * bytes ≡ total → bytes < 2 ^ 64 → Some bytes ≡ in_u64 total
all_done dims ids i bytes total done so_far fits =
    let none : drop i ids ≡ [] = drop_all i ids done in
    let same : bytes ≡ total = omega (arith, ap (λ (l : List ℕ). product (map (length_of dims) l) * bytes) none, so_far) in
    ap Some same ∙ sym (in_u64-some total (omega (arith, fits, same)))
