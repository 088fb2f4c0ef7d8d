-- The text of a float is parsed as that float.
use Rattle.std.proofs.Common.{◌≡◌, ℕ, zero, suc, ◌+◌, ◌-◌, ◌*◌, ◌%◌, ◌^◌, ◌<◌, ◌≤◌, Bool, true, false, not, cond, List, ◌++◌, length, decimal, Some, T, ltb, eqb, inl, inr, refl, sym, ap, subst, ◌∙◌, arith, append-nil, true≢false, mod-eq_of_lt}
use Rattle.std.proofs.lemmas.Bool.{cases_lt, lt-leb, le-leb, lt-ltb, le-ltb}
use Rattle.std.proofs.lemmas.Fmt.{decimal_nonempty, decimal_digit}
use Rattle.std.specs.Fmt.{sign_text}
use Rattle.std.specs.Prelude.{codes}
use lib.Ieee.{Float, Format, binary32, binary64, nan, inf, fin, prec, low, hid, ones, top, odd, round, neg, is_nan, of_bits, of_fields, to_bits}
use lib.Ieee.Bits.{nan_bits_is, nan_bits_above, to_bits-of_bits}
use lib.Ieee.Scale.{round_same}
use Rattle.fast_float.specs.Parse.{parse_float, read_float}
use Rattle.fast_float.specs.Text.{Parts, scan, nearest}
use Rattle.fast_float.proofs.ExactLemmas.{ten_to_pos}
use Rattle.fast_float.proofs.Patterns.{infinite, neg-round}
use Rattle.fast_float.proofs.Writing.{parse_float-text_of}
use Rattle.fast_float.proofs.Extremes.{nearest_of_zero}
use Rattle.ncc_decimal.specs.Floats.{significand, exponent, nearness, minus, IsFloatText, IsMagnitudeText}
use Rattle.ncc_decimal.specs.Printed.{float_text}
use Rattle.ncc_decimal.specs.Shortest.{IsShortest}
use Rattle.ncc_decimal.specs.Texts.{laid_out, decimal_text}
use Rattle.ncc_decimal.proofs.Decoded.{bits_read_back}
use Rattle.ncc_decimal.proofs.FewDigits.{few_of_double}
use Rattle.ncc_decimal.proofs.Fewest.{one_shortest}
use Rattle.ncc_decimal.proofs.Found.{coarse_power}
use Rattle.ncc_decimal.proofs.Lengths.{at_most_17}
use Rattle.ncc_decimal.proofs.OneText.{hidden_fits, found_by_bits, float_text_is}
use Rattle.ncc_decimal.proofs.Numerals.{IsNumeralOf, numeral_of}

-- ---- signs

neg-odd : (d q k l : ℕ) → neg (odd d false q k l) ≡ odd d true q k l
unfolding neg odd
neg-odd d zero k l = refl
neg-odd d (suc q) k l = refl

neg-of_fields : (f : Format) (x t : ℕ) → neg (of_fields f false x t) ≡ of_fields f true x t
unfolding neg of_fields
neg-of_fields f zero t = neg-odd _ t 0 _
neg-of_fields f (suc x) t = go (eqb (suc x) (ones f)) (eqb t 0)
  where
    go : (a b : Bool) → neg (cond a (cond b (inf false) nan) (odd (prec f) false (hid f + t) x (low f))) ≡ cond a (cond b (inf true) nan) (odd (prec f) true (hid f + t) x (low f))
    go true true = refl
    go true false = refl
    go false b = neg-odd _ _ x _

fields_below : (f : Format) (bits : ℕ) → top f ≤ bits → bits < 2 * top f → (bits % top f ≡ bits - top f) × (bits % hid f ≡ (bits - top f) % hid f)
fields_below binary32 bits p q = omega arith
fields_below binary64 bits p q = omega arith

-- the sign bit turns the sign
neg-of_bits : (f : Format) (bits : ℕ) → top f ≤ bits → bits < 2 * top f → neg (of_bits f (bits % top f)) ≡ of_bits f bits
unfolding of_bits
neg-of_bits f bits p q =
    let e = fields_below f bits p q in
    let small : bits - top f < top f = omega arith in
    rw (e.0, le-leb (top f) bits p, lt-leb (top f) (bits - top f) small, mod-eq_of_lt small, e.1) (neg-of_fields f _ _)

-- ---- numerals

-- the numeral of a decimal that rounds to these bits
rounded : (f : Format) (negative : Bool) (body : List ℕ) (d p magnitude : ℕ) (q : Parts) → IsNumeralOf body d p q → of_bits f magnitude ≡ round f false (d * 10 ^ (p - 400)) (10 ^ (400 - p))
    → parse_float f (sign_text negative ++ body) ≡ Some (cond negative (neg (of_bits f magnitude)) (of_bits f magnitude))
rounded f negative body d p magnitude q is near =
    let num = d * 10 ^ (p - 400) in
    let den = 10 ^ (400 - p) in
    let same : nearest f negative q ≡ round f negative num den = round_same f negative _ _ _ _ (ten_to_pos _) (ten_to_pos _) is.worth in
    ap (λ t. parse_float f (sign_text negative ++ t)) is.text_is ∙ parse_float-text_of f negative q is.well_formed is.whole ∙ ap Some (same ∙ signed negative)
  where
    signed : (negative : Bool) → round f negative (d * 10 ^ (p - 400)) (10 ^ (400 - p)) ≡ cond negative (neg (of_bits f magnitude)) (of_bits f magnitude)
    signed true = sym (neg-round f _ _) ∙ ap neg (sym near)
    signed false = sym near

-- what a text without a sign says, and with one
with_sign : (f : Format) (bits : ℕ) (body : List ℕ) → bits < 2 * top f → ((negative : Bool) → parse_float f (sign_text negative ++ body) ≡ Some (cond negative (neg (of_bits f (bits % top f))) (of_bits f (bits % top f))))
    → parse_float f (minus (top f) bits ++ body) ≡ Some (of_bits f bits)
with_sign f bits body fits says =
    elim (cases_lt bits (top f)) [
      | inl l ↦ let small : bits % top f ≡ bits = mod-eq_of_lt l in rw (lt-ltb bits (top f) l) (says false ∙ ap (λ b. Some (of_bits f b)) small)
      | inr l ↦ rw (le-ltb bits (top f) l) (says true ∙ ap Some (neg-of_bits f bits l fits))
    ]

-- ---- each kind of float

-- the decimal has few digits, and a power below 800
few_of : (f : Format) (magnitude d p : ℕ) → 0 < magnitude → magnitude < ones f * hid f → IsShortest (significand (hid f) magnitude) (exponent (hid f) (1074 - low f) magnitude) (nearness (hid f) magnitude) d p
    → (d < 10 ^ 17) × (p < 800)
few_of f magnitude d p S finite is =
    let h = hidden_fits f in
    let m = significand (hid f) magnitude in
    let k = exponent (hid f) (1074 - low f) magnitude in
    let near = nearness (hid f) magnitude in
    (few_of_double (hid f) magnitude k d p h.0 h.1 S is, omega (arith, (one_shortest m k near d p _ _ is (found_by_bits f magnitude S finite)).1, coarse_power m k near))

finite_parses : (f : Format) (negative : Bool) (magnitude d p : ℕ) → 0 < magnitude → magnitude < ones f * hid f → IsShortest (significand (hid f) magnitude) (exponent (hid f) (1074 - low f) magnitude) (nearness (hid f) magnitude) d p
    → parse_float f (sign_text negative ++ decimal_text d p) ≡ Some (cond negative (neg (of_bits f magnitude)) (of_bits f magnitude))
finite_parses f negative magnitude d p S finite is =
    let few = few_of f magnitude d p S finite is in
    let small : d < 2 ^ 64 = omega (arith, few.0) in
    let q = numeral_of (length (decimal d)) d p (decimal_nonempty d small) small (omega (arith, at_most_17 d few.0, few.1)) in
    rounded f negative (decimal_text d p) d p magnitude q.0 q.1 (bits_read_back f magnitude d p S finite is).0

zero_text : laid_out 1 0 400 ≡ codes "0"
zero_text = append-nil (decimal 0) ∙ decimal_digit 0 (omega arith)

zero_parses : (f : Format) (negative : Bool) → parse_float f (sign_text negative ++ codes "0") ≡ Some (cond negative (neg (of_bits f 0)) (of_bits f 0))
zero_parses f negative =
    let q = numeral_of 1 0 400 (omega arith) (omega arith) (omega arith) in
    subst (λ t. parse_float f (sign_text negative ++ t) ≡ Some (cond negative (neg (of_bits f 0)) (of_bits f 0))) zero_text (rounded f negative (laid_out 1 0 400) 0 400 0 q.0 q.1 (nearest_of_zero f 0 1 (omega arith) refl).0)

infinity_parses : (f : Format) (negative : Bool) → parse_float f (sign_text negative ++ codes "Infinity") ≡ Some (inf negative)
unfolding read_float scan
infinity_parses f true = refl
infinity_parses f false = refl

infinity_is : (f : Format) (negative : Bool) → inf negative ≡ cond negative (neg (of_bits f (ones f * hid f))) (of_bits f (ones f * hid f))
unfolding neg
infinity_is f true = ap neg (sym (infinite f))
infinity_is f false = sym (infinite f)

nan_parses : (f : Format) → parse_float f (codes "NaN") ≡ Some nan
unfolding read_float scan
nan_parses f = refl

only_nan : (x : Float) → is_nan x ≡ true → x ≡ nan
unfolding is_nan
only_nan nan e = refl
only_nan (inf s) e = absurd (true≢false (sym e))
only_nan (fin s m d) e = absurd (true≢false (sym e))

other_parses : (f : Format) (negative : Bool) (magnitude : ℕ) (body : List ℕ) → magnitude ≤ ones f * hid f → IsMagnitudeText (hid f) (ones f * hid f) (1074 - low f) magnitude body
    → parse_float f (sign_text negative ++ body) ≡ Some (cond negative (neg (of_bits f magnitude)) (of_bits f magnitude))
other_parses f negative magnitude body fits is =
    elim (cases_lt magnitude (ones f * hid f)) [
      | inl l ↦ elim (cases_lt 0 magnitude) [
        | inl s ↦ let t = is.finite s l in rw t.3 (finite_parses f negative magnitude t.0 t.1 s l t.2)
        | inr s ↦ let none : magnitude ≡ 0 = omega arith in rw (is.zero none, none) (zero_parses f negative)
      ]
      | inr l ↦ let top : magnitude ≡ ones f * hid f = omega arith in rw (is.infinite top, top) (infinity_parses f negative ∙ ap Some (infinity_is f negative))
    ]

text_parses : (f : Format) (bits : ℕ) (text : List ℕ) → bits < 2 * top f → IsFloatText f bits text → parse_float f text ≡ Some (of_bits f bits)
text_parses f bits text fits is =
    elim (cases_lt (ones f * hid f) (bits % top f)) [
      | inl l ↦ let is_it : is_nan (of_bits f bits) ≡ true = sym (nan_bits_is f bits) ∙ nan_bits_above f bits ∙ lt-ltb _ _ l in rw (is.nan l) (nan_parses f ∙ ap Some (sym (only_nan (of_bits f bits) is_it)))
      | inr l ↦ let t = is.other l in rw t.2 (with_sign f bits t.0 fits (λ negative. other_parses f negative (bits % top f) t.0 l t.1))
    ]

pub float_text_parses : (f : Format) (bits : ℕ) → bits < 2 * top f → parse_float f (float_text f bits) ≡ Some (of_bits f bits)
float_text_parses f bits fits = text_parses f bits (float_text f bits) fits (float_text_is f bits)

pub bits_again : (f : Format) (bits : ℕ) → bits < 2 * top f → bits % top f ≤ ones f * hid f → to_bits f (of_bits f bits) ≡ bits
bits_again f bits fits number =
    let above : ltb (ones f * hid f) (bits % top f) ≡ false = le-ltb _ _ number in
    to_bits-of_bits f bits fits (subst (λ (b : Bool). T (not b)) (sym above ∙ sym (nan_bits_above f bits) ∙ nan_bits_is f bits) tt)
