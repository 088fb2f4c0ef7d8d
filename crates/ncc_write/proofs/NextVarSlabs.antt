-- The VarSlab of the next slab, without a division.
use Rattle.std.proofs.Common.{◌≡◌, ℕ, ◌+◌, ◌-◌, ◌*◌, ◌/◌, ◌%◌, ◌<◌, ◌≤◌, Bool, true, false, ltb, refl, sym, ap, ◌∙◌, arith, mod-lt}
use Rattle.std.specs.Prelude.{if◌then◌else◌}
use Rattle.std.proofs.Math.Nat.{add-mul}
use Rattle.std.proofs.lemmas.Bool.{ltb-true, ltb-false}
use Rattle.std.proofs.lemmas.Nat.{div-add-mod', div-mul-add, mod-mul-add}

-- k slabs are before it; so many are of fixed variables, and n of a record
module _ (fixed n k : ℕ) (some : fixed ≤ k + 1 → 0 < n) where
  abbrev number_by : (m : ℕ) → Bool → ℕ
  number_by m b = if b then m else fixed + (m - fixed) % n

  abbrev round_by : (m : ℕ) → Bool → ℕ
  round_by m b = if b then 0 else (m - fixed) / n

  -- ---- further on in the record, or among the fixed ones

  first : (j : ℕ) → j ≡ 0 → 0 < n → (j % n ≡ 0) × (j / n ≡ 0)
  first j zeroed pos =
      let is : j ≡ 0 * n + 0 = omega (arith, zeroed) in
      (ap (λ (m : ℕ). m % n) is ∙ mod-mul-add 0 n 0 pos, ap (λ (m : ℕ). m / n) is ∙ div-mul-add 0 n 0 pos)

  step : (j : ℕ) → j % n + 1 < n → ((j + 1) % n ≡ j % n + 1) × ((j + 1) / n ≡ j / n)
  step j lt =
      let is : j + 1 ≡ j / n * n + (j % n + 1) = omega (arith, div-add-mod' j n) in
      (ap (λ (m : ℕ). m % n) is ∙ mod-mul-add (j / n) n (j % n + 1) lt, ap (λ (m : ℕ). m / n) is ∙ div-mul-add (j / n) n (j % n + 1) lt)

  pub next_number : (b c : Bool) → ltb k fixed ≡ b → ltb (k + 1) fixed ≡ c → number_by k b + 1 < fixed + n → number_by k b + 1 ≡ number_by (k + 1) c
  next_number true true here there lt = refl
  next_number true false here there lt =
      let below = ltb-true k fixed here in
      let above = ltb-false (k + 1) fixed there in
      omega (arith, below, above, (first (k + 1 - fixed) (omega (arith, below)) (some above)).0)
  next_number false true here there lt = absurd (omega (arith, ltb-false k fixed here, ltb-true (k + 1) fixed there))
  next_number false false here there lt =
      let above = ltb-false k fixed here in
      let next : k + 1 - fixed ≡ k - fixed + 1 = omega (arith, above) in
      omega (arith, ap (λ (m : ℕ). m % n) next, (step (k - fixed) (omega (arith, lt))).0)

  pub same_round : (b c : Bool) → ltb k fixed ≡ b → ltb (k + 1) fixed ≡ c → number_by k b + 1 < fixed + n → round_by k b ≡ round_by (k + 1) c
  same_round true true here there lt = refl
  same_round true false here there lt =
      let below = ltb-true k fixed here in
      let above = ltb-false (k + 1) fixed there in
      sym (first (k + 1 - fixed) (omega (arith, below)) (some above)).1
  same_round false true here there lt = absurd (omega (arith, ltb-false k fixed here, ltb-true (k + 1) fixed there))
  same_round false false here there lt =
      let above = ltb-false k fixed here in
      let next : k + 1 - fixed ≡ k - fixed + 1 = omega (arith, above) in
      sym (ap (λ (m : ℕ). m / n) next ∙ (step (k - fixed) (omega (arith, lt))).1)

  -- ---- the first of the next record

  last : (j : ℕ) → 0 < n → n ≤ j % n + 1 → ((j + 1) % n ≡ 0) × ((j + 1) / n ≡ j / n + 1)
  last j pos le =
      let is : j + 1 ≡ (j / n + 1) * n + 0 = omega (arith, div-add-mod' j n, mod-lt j pos, le, add-mul (j / n) 1 n) in
      (ap (λ (m : ℕ). m % n) is ∙ mod-mul-add (j / n + 1) n 0 pos, ap (λ (m : ℕ). m / n) is ∙ div-mul-add (j / n + 1) n 0 pos)

  pub first_number : (b c : Bool) → ltb k fixed ≡ b → ltb (k + 1) fixed ≡ c → fixed + n ≤ number_by k b + 1 → fixed ≡ number_by (k + 1) c
  first_number true c here there le =
      let below = ltb-true k fixed here in
      absurd (omega (arith, below, le, some (omega (arith, le))))
  first_number false true here there le = absurd (omega (arith, ltb-false k fixed here, ltb-true (k + 1) fixed there))
  first_number false false here there le =
      let above = ltb-false k fixed here in
      let next : k + 1 - fixed ≡ k - fixed + 1 = omega (arith, above) in
      omega (arith, ap (λ (m : ℕ). m % n) next, (last (k - fixed) (some (omega (arith, above))) (omega (arith, le))).0)

  pub next_round : (b c : Bool) → ltb k fixed ≡ b → ltb (k + 1) fixed ≡ c → fixed + n ≤ number_by k b + 1 → round_by k b + 1 ≡ round_by (k + 1) c
  next_round true c here there le =
      let below = ltb-true k fixed here in
      absurd (omega (arith, below, le, some (omega (arith, le))))
  next_round false true here there le = absurd (omega (arith, ltb-false k fixed here, ltb-true (k + 1) fixed there))
  next_round false false here there le =
      let above = ltb-false k fixed here in
      let next : k + 1 - fixed ≡ k - fixed + 1 = omega (arith, above) in
      sym (ap (λ (m : ℕ). m / n) next ∙ (last (k - fixed) (some (omega (arith, above))) (omega (arith, le))).1)
