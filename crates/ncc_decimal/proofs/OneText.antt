-- The text of a float by the function is the one by the definition, and the only one.
use Rattle.std.proofs.Common.{◌≡◌, ℕ, ◌-◌, ◌*◌, ◌%◌, ◌^◌, ◌<◌, ◌≤◌, ◌⊎◌, List, ◌++◌, eqb, inl, inr, refl, sym, ap, ap₂, ◌∙◌, arith}
use Rattle.std.proofs.lemmas.Bool.{cases_lt, cases_Bool, lt-ltb, le-ltb, eqb-true, eqb-false}
use Rattle.std.specs.Prelude.{codes}
use lib.Ieee.{Format, binary32, binary64, low, hid, ones, top}
use Rattle.ncc_decimal.specs.Floats.{significand, exponent, nearness, minus, IsMagnitudeText, IsFloatText}
use Rattle.ncc_decimal.specs.Printed.{shortest_digits, shortest_power, magnitude_text, float_text}
use Rattle.ncc_decimal.specs.Shortest.{IsShortest}
use Rattle.ncc_decimal.specs.Texts.{decimal_text}
use Rattle.ncc_decimal.proofs.Decoded.{split_of}
use Rattle.ncc_decimal.proofs.Fewest.{one_shortest}
use Rattle.ncc_decimal.proofs.Found.{found_is_shortest}

exponent_fits : (f : Format) (magnitude : ℕ) → magnitude < ones f * hid f → exponent (hid f) (1074 - low f) magnitude ≤ 2045
exponent_fits binary32 magnitude h = omega arith
exponent_fits binary64 magnitude h = omega arith

pub hidden_fits : (f : Format) → (0 < hid f) × (hid f ≤ 2 ^ 52)
hidden_fits binary32 = (omega arith, omega arith)
hidden_fits binary64 = (omega arith, omega arith)

infinity_some : (f : Format) → 0 < ones f * hid f
infinity_some binary32 = omega arith
infinity_some binary64 = omega arith

pub found_by_bits : (f : Format) (magnitude : ℕ) → 0 < magnitude → magnitude < ones f * hid f
    → let m = significand (hid f) magnitude in let k = exponent (hid f) (1074 - low f) magnitude in let near = nearness (hid f) magnitude in IsShortest m k near (shortest_digits m k near) (shortest_power m k near)
found_by_bits f magnitude S finite =
    let h = hidden_fits f in
    let near = nearness (hid f) magnitude in
    let s = split_of (hid f) magnitude h.0 S in
    let sides : (near ≡ 1) ⊎ (near ≡ 2) = elim s.side [ inl t ↦ inr t.0 | inr t ↦ inl t.0 ] in
    found_is_shortest (significand (hid f) magnitude) (exponent (hid f) (1074 - low f) magnitude) near s.some (omega (arith, s.fits)) sides (exponent_fits f magnitude finite)

-- ---- the text of a magnitude

abbrev by_function : Format → ℕ → List ℕ
by_function f magnitude = magnitude_text (hid f) (ones f * hid f) (1074 - low f) magnitude

at_infinity : (f : Format) (magnitude : ℕ) → magnitude ≡ ones f * hid f → by_function f magnitude ≡ codes "Infinity"
at_infinity f magnitude e = elim (cases_Bool (eqb magnitude (ones f * hid f))) [ inl t ↦ rw t refl | inr t ↦ absurd (eqb-false _ _ t e) ]

at_zero : (f : Format) (magnitude : ℕ) → magnitude ≡ 0 → by_function f magnitude ≡ codes "0"
at_zero f magnitude e =
    elim (cases_Bool (eqb magnitude (ones f * hid f))) [
      | inl t ↦ absurd (omega (arith, eqb-true _ _ t, infinity_some f))
      | inr t ↦ elim (cases_Bool (eqb magnitude 0)) [ inl u ↦ rw (t, u) refl | inr u ↦ absurd (eqb-false _ _ u e) ]
    ]

at_finite : (f : Format) (magnitude : ℕ) → 0 < magnitude → magnitude < ones f * hid f
    → let m = significand (hid f) magnitude in let k = exponent (hid f) (1074 - low f) magnitude in let near = nearness (hid f) magnitude in
    by_function f magnitude ≡ decimal_text (shortest_digits m k near) (shortest_power m k near)
at_finite f magnitude S finite =
    elim (cases_Bool (eqb magnitude (ones f * hid f))) [
      | inl t ↦ absurd (omega (arith, eqb-true _ _ t))
      | inr t ↦ elim (cases_Bool (eqb magnitude 0)) [ inl u ↦ absurd (omega (arith, eqb-true _ _ u)) | inr u ↦ rw (t, u) refl ]
    ]

magnitude_text_is : (f : Format) (magnitude : ℕ) → IsMagnitudeText (hid f) (ones f * hid f) (1074 - low f) magnitude (by_function f magnitude)
magnitude_text_is f magnitude = record {
  infinite = at_infinity f magnitude;
  zero = at_zero f magnitude;
  finite = λ s l. (_, _, found_by_bits f magnitude s l, at_finite f magnitude s l);
}

one_magnitude_text : (f : Format) (magnitude : ℕ) (text : List ℕ) → magnitude ≤ ones f * hid f → IsMagnitudeText (hid f) (ones f * hid f) (1074 - low f) magnitude text → text ≡ by_function f magnitude
one_magnitude_text f magnitude text fits is =
    elim (cases_lt magnitude (ones f * hid f)) [
      | inl l ↦ elim (cases_lt 0 magnitude) [
        | inl s ↦ let t = is.finite s l in let o = one_shortest _ _ _ t.0 t.1 _ _ t.2 (found_by_bits f magnitude s l) in t.3 ∙ ap₂ decimal_text o.0 o.1 ∙ sym (at_finite f magnitude s l)
        | inr s ↦ let none : magnitude ≡ 0 = omega arith in is.zero none ∙ sym (at_zero f magnitude none)
      ]
      | inr l ↦ let at : magnitude ≡ ones f * hid f = omega arith in is.infinite at ∙ sym (at_infinity f magnitude at)
    ]

-- ---- the text of a float

pub float_text_is : (f : Format) (bits : ℕ) → IsFloatText f bits (float_text f bits)
float_text_is f bits = record {
  nan = λ h. rw (lt-ltb (ones f * hid f) (bits % top f) h) refl;
  other = λ h. (by_function f (bits % top f), magnitude_text_is f (bits % top f), rw (le-ltb (ones f * hid f) (bits % top f) h) refl);
}

pub one_float_text : (f : Format) (bits : ℕ) (text : List ℕ) → IsFloatText f bits text → text ≡ float_text f bits
one_float_text f bits text is =
    elim (cases_lt (ones f * hid f) (bits % top f)) [
      | inl l ↦ rw (lt-ltb (ones f * hid f) (bits % top f) l) (is.nan l)
      | inr l ↦ let t = is.other l in rw (le-ltb (ones f * hid f) (bits % top f) l) (t.2 ∙ ap (λ b. minus (top f) bits ++ b) (one_magnitude_text f (bits % top f) t.0 l t.1))
    ]
