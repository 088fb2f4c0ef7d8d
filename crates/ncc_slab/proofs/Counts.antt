-- How many elements are selected.
use Rattle.std.proofs.Common.{◌≡◌, ℕ, zero, suc, ◌+◌, ◌-◌, ◌*◌, ◌/◌, ◌%◌, ◌<◌, ◌≤◌, ltb, cond, Bool, true, false, None, List, [], ◌∷◌, length, refl, subst, arith, mul_comm, mod-lt}
use Rattle.std.specs.List.{AllByRecursion}
use Rattle.std.proofs.lemmas.Bool.{ltb-true, ltb-false}
use Rattle.std.proofs.lemmas.Nat.{mul-le}
use Rattle.std.proofs.Math.Nat.{mod-add-div, add-mul}
use Rattle.ncc_layout.specs.Sizes.{product}
use Rattle.ncc_slab.specs.declared.slab.Slab.{Slab}
use Rattle.ncc_slab.specs.Selection.{selected_count, fitting_count}
use Rattle.ncc_slab.specs.Refusals.{along, EndsBy, Fits, shape_fault}
use Rattle.ncc_slab.proofs.Lists.{count_is_product}
use Rattle.ncc_slab.proofs.Fitting.{fits_from}

pub count_below : (l s c d : ℕ) → 0 < d → EndsBy l s c d → c ≤ l
count_below l s zero d positive ends = omega arith
count_below l s (suc n) d positive ends = omega (arith, ends, mul-le n 1 n d (omega arith) (omega (arith, positive)))

pub products_below : (ls ss cs ds : List ℕ) → length ss ≡ length ls → length cs ≡ length ls → length ds ≡ length ls
    → AllByRecursion Fits (along ls ss cs ds) → product cs ≤ product ls
products_below [] ss [] ds a b e fit = omega arith
products_below [] ss (c ∷ cs) ds a b e fit = absurd (omega (arith, b))
products_below (l ∷ ls) ss [] ds a b e fit = absurd (omega (arith, b))
products_below (l ∷ ls) [] (c ∷ cs) ds a b e fit = absurd (omega (arith, a))
products_below (l ∷ ls) (s ∷ ss) (c ∷ cs) [] a b e fit = absurd (omega (arith, e))
products_below (l ∷ ls) (s ∷ ss) (c ∷ cs) (d ∷ ds) a b e fit =
    mul-le c (product cs) l (product ls) (count_below l s c d fit.0.0 fit.0.1)
    (products_below ls ss cs ds (omega (arith, a)) (omega (arith, b)) (omega (arith, e)) fit.1)

pub selects_at_most_all : (lengths : List ℕ) (s : Slab) → shape_fault lengths s ≡ None → selected_count s ≤ product lengths
selects_at_most_all lengths s none =
    let fits = fits_from lengths s none in
    omega (arith, count_is_product s, products_below lengths s.start s.count s.stride fits.starts fits.counts fits.strides fits.each)

-- ---- where no count is given

next_end : (room start q stride : ℕ) → EndsBy room start (q + 1 + 1) stride → start + (q + 1) * stride < room
next_end room start q stride past =
    let down : q + 1 + 1 ≡ suc (q + 1) = omega arith in
    subst (λ (n : ℕ). EndsBy room start n stride) down past

by_test : (b : Bool) (room start stride : ℕ) → ltb start room ≡ b → start ≤ room → 0 < stride
    → EndsBy room start (cond b ((room - start - 1) / stride + 1) 0) stride × (EndsBy room start (cond b ((room - start - 1) / stride + 1) 0 + 1) stride → ⊥)
by_test true room start stride e low positive =
    let below : start < room = ltb-true start room e in
    let q = (room - start - 1) / stride in
    let whole = mod-add-div (room - start - 1) stride in
    let rest : (room - start - 1) % stride < stride = mod-lt (room - start - 1) positive in
    let up : suc q ≡ q + 1 = omega arith in (
      subst (λ (n : ℕ). EndsBy room start n stride) up (omega (arith, below, whole, mul_comm stride q)),
      λ past. omega (arith, below, whole, rest, mul_comm stride q, add-mul q 1 stride, next_end room start q stride past),
    )
by_test false room start stride e low positive =
    let above : room ≤ start = ltb-false start room e in
    (low, λ past. omega (arith, above, past))

pub count_fits : (room start stride : ℕ) → start ≤ room → 0 < stride
    → EndsBy room start (fitting_count room start stride) stride × (EndsBy room start (fitting_count room start stride + 1) stride → ⊥)
count_fits room start stride low positive = by_test (ltb start room) room start stride refl low positive
