-- Which part has a byte.
use Rattle.std.proofs.Common.{◌≡◌, ℕ, zero, suc, ◌+◌, ◌-◌, ◌<◌, ◌≤◌, ltb, List, [], ◌∷◌, length, get_or, Option, Some, None, refl, ap, ◌∙◌, true, false, arith, if◌then◌else◌}
use Rattle.std.specs.List.{slice_get}
use Rattle.std.specs.List.Sorted.{IsNonDecreasingBy}
use Rattle.std.proofs.lemmas.Bool.{lt-ltb, le-ltb}
use Rattle.ncc_header.specs.declared.part.Part.{Part}
use Rattle.ncc_parts.specs.declared.part.Piece.{Piece}
use Rattle.ncc_parts.specs.Parts.{ends_from, part_at}

-- ---- the ends rise

ends-after : (at : ℕ) (ps : List (Part × List ℕ)) (i : ℕ) (d : Piece) → i < length (ends_from at ps) → at ≤ (get_or (ends_from at ps) i d).end
ends-after at [] i d lt = absurd (omega (arith, lt))
ends-after at (p ∷ ps) zero d lt = omega arith
ends-after at (p ∷ ps) (suc i) d lt = omega (arith, ends-after (at + length p.1) ps i d (omega (arith, lt)))

pub ends-rise : (at : ℕ) (ps : List (Part × List ℕ)) → IsNonDecreasingBy (λ (x : Piece). x.end) (ends_from at ps)
ends-rise at [] i j d le lt = absurd (omega (arith, lt))
ends-rise at (p ∷ ps) zero zero d le lt = omega arith
ends-rise at (p ∷ ps) zero (suc j) d le lt = ends-after (at + length p.1) ps j d (omega (arith, lt))
ends-rise at (p ∷ ps) (suc i) zero d le lt = absurd (omega (arith, le))
ends-rise at (p ∷ ps) (suc i) (suc j) d le lt = ends-rise (at + length p.1) ps i j d (omega (arith, le)) (omega (arith, lt))

-- ---- the part at an offset

abbrev pub part_in : Option Piece → Option Part
part_in None = None
part_in (Some x) = Some x.part

-- the first part that ends past the offset has its byte
pub located : (at : ℕ) (ps : List (Part × List ℕ)) (o k : ℕ) (d : Piece) → at ≤ o → ((i : ℕ) → i < k → i < length (ends_from at ps) → (get_or (ends_from at ps) i d).end ≤ o)
    → (k < length (ends_from at ps) → o < (get_or (ends_from at ps) k d).end) → part_at (o - at) ps ≡ part_in (slice_get (ends_from at ps) k)
located at [] o k d le before after = refl
located at (p ∷ ps) o zero d le before after =
    let lt : ltb (o - at) (length p.1) ≡ true = lt-ltb _ _ (omega (arith, le, after (omega arith))) in
    ap (λ b. if b then Some p.0 else part_at (o - at - length p.1) ps) lt
located at (p ∷ ps) o (suc k) d le before after =
    let past = before 0 (omega arith) (omega arith) in
    let no : ltb (o - at) (length p.1) ≡ false = le-ltb _ _ (omega (arith, le, past)) in
    ap (λ b. if b then Some p.0 else part_at (o - at - length p.1) ps) no
    ∙ ap (λ n. part_at n ps) (omega (arith, le, past))
    ∙ located (at + length p.1) ps o k d (omega (arith, past)) (λ i lt there. before (suc i) (omega (arith, lt)) (omega (arith, there))) (λ there. after (omega (arith, there)))
