-- Index lists and row-major numbers, one dimension at a time.
use Rattle.std.proofs.Common.{◌≡◌, ℕ, suc, ◌+◌, ◌*◌, ◌<◌, ◌≤◌, List, [], ◌∷◌, length, get_or, drop, drop-cons, refl, sym, ap, subst, ◌∙◌, arith}
use Rattle.std.proofs.Math.Nat.{mul_assoc, add-mul}
use Rattle.std.proofs.lemmas.Nat.{mul-le}
use Rattle.ncc_layout.specs.Sizes.{product}
use Rattle.ncc_layout.specs.Elements.{row_major, Inside}
use Rattle.ncc_layout.proofs.RowMajor.{row_major_below}

pub inside_length : (ls is : List ℕ) → Inside ls is → length ls ≡ length is
inside_length [] [] h = refl
inside_length [] (i ∷ is) h = absurd h
inside_length (l ∷ ls) [] h = absurd h
inside_length (l ∷ ls) (i ∷ is) h = ap suc (inside_length ls is h.1)

pub product_above : (ls is : List ℕ) → Inside ls is → 0 < product ls
product_above ls is h = omega (arith, row_major_below ls is h)

module _ (ls is : List ℕ) (k : ℕ) (below : k < length ls) (also : k < length is) where
  split : (xs : List ℕ) → k < length xs → drop k xs ≡ get_or xs k 0 ∷ drop (k + 1) xs
  split xs h =
      let next : suc k ≡ k + 1 = omega arith in
      drop-cons xs k 0 h ∙ ap (λ (n : ℕ). get_or xs k 0 ∷ drop n xs) next

  pub inside_split : Inside (drop k ls) (drop k is) → (get_or is k 0 < get_or ls k 0) × Inside (drop (k + 1) ls) (drop (k + 1) is)
  inside_split h = subst (λ (l : List ℕ). Inside l (get_or is k 0 ∷ drop (k + 1) is)) (split ls below) (subst (Inside (drop k ls)) (split is also) h)

  row_next : row_major (drop k ls) (drop k is) ≡ get_or is k 0 * product (drop (k + 1) ls) + row_major (drop (k + 1) ls) (drop (k + 1) is)
  row_next = ap (λ (l : List ℕ). row_major l (drop k is)) (split ls below) ∙ ap (row_major (get_or ls k 0 ∷ drop (k + 1) ls)) (split is also)

  product_next : product (drop k ls) ≡ get_or ls k 0 * product (drop (k + 1) ls)
  product_next = ap product (split ls below)

  -- the number so far, with the next index
  pub horner : (n total : ℕ) → n * product (drop k ls) + row_major (drop k ls) (drop k is) ≡ total
      → (n * get_or ls k 0 + get_or is k 0) * product (drop (k + 1) ls) + row_major (drop (k + 1) ls) (drop (k + 1) is) ≡ total
  horner n total h =
      let p = product (drop (k + 1) ls) in
      let spread : (n * get_or ls k 0 + get_or is k 0) * p ≡ n * get_or ls k 0 * p + get_or is k 0 * p = add-mul (n * get_or ls k 0) (get_or is k 0) p in
      let turned : n * get_or ls k 0 * p ≡ n * product (drop k ls) = mul_assoc n (get_or ls k 0) p ∙ ap (λ (m : ℕ). n * m) (sym product_next) in
      omega (arith, spread, turned, row_next, h)

  -- it fits where the whole number does
  pub horner_fits : (n total : ℕ) → Inside (drop k ls) (drop k is) → n * product (drop k ls) + row_major (drop k ls) (drop k is) ≡ total → n * get_or ls k 0 + get_or is k 0 ≤ total
  horner_fits n total inside h =
      let m = n * get_or ls k 0 + get_or is k 0 in
      let least : m * 1 ≤ m * product (drop (k + 1) ls) = mul-le m 1 m (product (drop (k + 1) ls)) (omega arith) (product_above (drop (k + 1) ls) (drop (k + 1) is) (inside_split inside).1) in
      omega (arith, least, horner n total h)
