-- Products of lists of numbers.
use Rattle.std.proofs.Common.{◌≡◌, ℕ, zero, suc, ◌+◌, ◌*◌, ◌<◌, ◌≤◌, List, [], ◌∷◌, length, get_or, drop, refl, sym, ap, subst, ◌∙◌, arith}
use Rattle.std.proofs.Math.Nat.{mul_assoc}
use Rattle.std.proofs.lemmas.Nat.{mul-le}
use Rattle.std.proofs.lemmas.List.{drop_all}
use Rattle.ncc_layout.specs.Sizes.{product}
use Rattle.ncc_slab.specs.Axes.{ArePositive}
use Rattle.ncc_slab.proofs.Searches.{next}

-- a 0 makes it 0
pub zero_among : (xs : List ℕ) (k : ℕ) → k < length xs → get_or xs k 0 ≡ 0 → product xs ≡ 0
zero_among [] k lt is = absurd (omega (arith, lt))
zero_among (x ∷ xs) zero lt is = omega (arith, ap (λ (n : ℕ). n * product xs) is)
zero_among (x ∷ xs) (suc k) lt is = omega (arith, ap (λ (n : ℕ). x * n) (zero_among xs k (omega (arith, lt)) is))

pub none_zero : (xs : List ℕ) → ((k : ℕ) → k < length xs → get_or xs k 0 ≡ 0 → ⊥) → ArePositive xs
none_zero [] none = tt
none_zero (zero ∷ xs) none = absurd (none 0 (omega arith) refl)
none_zero (suc x ∷ xs) none = (omega arith, none_zero xs (λ k lt is. none (suc k) (omega (arith, lt)) is))

pub product_positive : (xs : List ℕ) → ArePositive xs → 0 < product xs
product_positive [] all = omega arith
product_positive (x ∷ xs) all = mul-le 1 1 x (product xs) all.0 (product_positive xs all.1)

-- the numbers from k on
module _ (xs : List ℕ) (k : ℕ) (lt : k < length xs) (all : ArePositive (drop k xs)) where
  abbrev here : ℕ
  here = get_or xs k 0

  abbrev rest : List ℕ
  rest = drop (k + 1) xs

  pub split : ArePositive (here ∷ rest)
  split = subst ArePositive (next xs k lt) all

  pub product_split : product (drop k xs) ≡ here * product rest
  product_split = ap product (next xs k lt)

  pub factor_fits : (n total : ℕ) → n * product (drop k xs) ≡ total → n * here ≤ total
  factor_fits n total is =
      let whole : n * here * product rest ≡ total = mul_assoc n here (product rest) ∙ ap (λ (m : ℕ). n * m) (sym product_split) ∙ is in
      omega (arith, whole, mul-le (n * here) 1 (n * here) (product rest) (omega arith) (product_positive rest split.1))

  pub factor_goes_on : (n total : ℕ) → n * product (drop k xs) ≡ total → n * here * product rest ≡ total
  factor_goes_on n total is = mul_assoc n here (product rest) ∙ ap (λ (m : ℕ). n * m) (sym product_split) ∙ is

pub factors_done : (xs : List ℕ) (k n total : ℕ) → length xs ≤ k → n * product (drop k xs) ≡ total → n ≡ total
factors_done xs k n total le is = omega (arith, ap (λ (l : List ℕ). n * product l) (drop_all k xs le), is)
