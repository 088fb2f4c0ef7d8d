-- Indices of a selection that fits in its shape.
use Rattle.std.proofs.Common.{◌≡◌, ℕ, zero, suc, ◌+◌, ◌*◌, ◌^◌, ◌<◌, List, [], ◌∷◌, length, get_or, ◌∙◌, sym, arith}
use Rattle.std.specs.List.{AllByRecursion}
use Rattle.std.proofs.lemmas.Nat.{mul-le}
use Rattle.ncc_slab.specs.Refusals.{along, EndsBy, Fits, FitsIn}
use Rattle.ncc_slab.specs.declared.slab.Slab.{Slab}
use Rattle.ncc_csv.specs.Rows.{HasIndices}

below_end : (l s c d k : ℕ) → EndsBy l s c d → k < c → s + k * d < l
below_end l s zero d k ends lt = absurd (omega (arith, lt))
below_end l s (suc n) d k ends lt = omega (arith, ends, mul-le k d n d (omega (arith, lt)) (omega arith))

indices_below : (ls ss cs ds : List ℕ) → length ss ≡ length ls → length cs ≡ length ls → length ds ≡ length ls → AllByRecursion Fits (along ls ss cs ds) → AllByRecursion (λ l. l < 2 ^ 64) ls
    → (i k : ℕ) → i < length cs → k < get_or cs i 0 → get_or ss i 0 + k * get_or ds i 0 < 2 ^ 64
indices_below [] ss [] ds a b e fit all i k lt below = absurd (omega (arith, lt))
indices_below [] ss (c ∷ cs) ds a b e fit all i k lt below = absurd (omega (arith, b))
indices_below (l ∷ ls) ss [] ds a b e fit all i k lt below = absurd (omega (arith, b))
indices_below (l ∷ ls) [] (c ∷ cs) ds a b e fit all i k lt below = absurd (omega (arith, a))
indices_below (l ∷ ls) (s ∷ ss) (c ∷ cs) [] a b e fit all i k lt below = absurd (omega (arith, e))
indices_below (l ∷ ls) (s ∷ ss) (c ∷ cs) (d ∷ ds) a b e fit all zero k lt below = omega (arith, below_end l s c d k fit.0.1 below, all.0)
indices_below (l ∷ ls) (s ∷ ss) (c ∷ cs) (d ∷ ds) a b e fit all (suc i) k lt below =
    indices_below ls ss cs ds (omega (arith, a)) (omega (arith, b)) (omega (arith, e)) fit.1 all.1 i k (omega (arith, lt)) below

pub fitting_has_indices : (lengths : List ℕ) (s : Slab) → FitsIn lengths s → AllByRecursion (λ l. l < 2 ^ 64) lengths → HasIndices s
fitting_has_indices lengths s fits all = record {
  starts = fits.starts ∙ sym fits.counts;
  strides = fits.strides ∙ sym fits.counts;
  below = indices_below lengths s.start s.count s.stride fits.starts fits.counts fits.strides fits.each all;
}
