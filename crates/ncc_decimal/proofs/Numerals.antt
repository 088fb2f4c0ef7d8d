-- The text of a decimal, as the library's parser takes it apart: a numeral of the decimal's worth.
use Rattle.std.proofs.Common.{◌≡◌, ℕ, zero, suc, ◌+◌, ◌-◌, ◌*◌, ◌/◌, ◌%◌, ◌^◌, ◌<◌, ◌≤◌, Bool, true, false, cond, List, [], ◌∷◌, ◌++◌, length, replicate, decimal, eqb, inl, inr, refl, sym, ap, ◌∙◌, arith, append-nil, append_assoc, length-append, true≢false}
use Rattle.std.proofs.lemmas.Bool.{cases_lt, cases_Bool, lt-ltb, le-ltb, eqb-true}
use Rattle.std.proofs.lemmas.Fmt.{decimal_is_IsNumeral, decimal_nonempty}
use Rattle.std.proofs.lemmas.List.{length-replicate}
use Rattle.std.proofs.Math.Nat.{div-div-eq-div-mul, pow-suc}
use Rattle.std.specs.Fmt.{sign_text}
use Rattle.std.specs.Str.Parse.{digits_value, AllDigits}
use Rattle.fast_float.specs.Text.{Parts, digits_of, tens_up, tens_down, text_of, exponent_text, IsWellFormed}
use Rattle.fast_float.proofs.DigitsLemmas.{digits_value-append, is_digit}
use Rattle.fast_float.proofs.Extremes.{tens_eq}
use Rattle.fast_float.proofs.Rows.{AllDigits-append}
use Rattle.ncc_decimal.specs.Texts.{last_digits, pointed, exponent_text as printed_exponent, laid_out}

-- ---- the last digits of a number, and zeros

last_digit : (q : ℕ) → AllDigits 10 ((48 + q % 10) ∷ []) × (digits_value 10 ((48 + q % 10) ∷ []) ≡ q % 10)
last_digit q = let d = is_digit (48 + q % 10) (omega arith) (omega arith) in ((omega (arith, d.1), tt), omega (arith, d.1))

last_all : (f d : ℕ) → AllDigits 10 (last_digits f d)
unfolding last_digits
last_all zero d = tt
last_all (suc f) d = ((last_digit (d / 10 ^ f)).0.0, last_all f d)

last_length : (f d : ℕ) → length (last_digits f d) ≡ f
unfolding last_digits
last_length zero d = refl
last_length (suc f) d = ap suc (last_length f d)

last_value : (f d : ℕ) → d / 10 ^ f * 10 ^ f + digits_value 10 (last_digits f d) ≡ d
unfolding last_digits
last_value zero d = omega arith
last_value (suc f) d =
    let q = d / 10 ^ f in
    let here : digits_value 10 (last_digits (suc f) d) ≡ q % 10 * 10 ^ f + digits_value 10 (last_digits f d) =
    digits_value-append ((48 + q % 10) ∷ []) (last_digits f d) ∙ rw ((last_digit q).1, last_length f d) refl in
    let next : d / 10 ^ suc f ≡ q / 10 = ap (λ x. d / x) (pow-suc 10 f) ∙ sym (div-div-eq-div-mul d (10 ^ f) 10) in
    let parts : q / 10 * 10 + q % 10 ≡ q = omega arith in
    rw (next, pow-suc 10 f) (omega (arith, here, last_value f d, ap (λ x. x * 10 ^ f) parts))

zeros_all : (n : ℕ) → AllDigits 10 (replicate n 48)
zeros_all zero = tt
zeros_all (suc n) = (omega arith, zeros_all n)

zeros_value : (n : ℕ) → digits_value 10 (replicate n 48) ≡ 0
zeros_value zero = refl
zeros_value (suc n) = zeros_value n

-- ---- numerals

abbrev parts : List ℕ → Bool → List ℕ → Bool → List ℕ → Parts
parts whole point fraction negative exponent =
    record { whole = whole; point = point; fraction = fraction; exponent_negative = negative; exponent = exponent; len = length (whole ++ (cond point (46 ∷ fraction) [] ++ exponent_text negative exponent)) }

-- the text is that of a numeral, which is d * 10 ^ p / 10 ^ 400
pub record IsNumeralOf (text : List ℕ) (d p : ℕ) (q : Parts) : Type 0 where
  pub text_is : text ≡ text_of q
  pub well_formed : IsWellFormed q
  pub whole : 0 < length q.whole
  pub worth : digits_of q * 10 ^ tens_up q * 10 ^ (400 - p) ≡ d * 10 ^ (p - 400) * 10 ^ tens_down q

exponent_is : (negative : Bool) (e : ℕ) → e < 2 ^ 64 → exponent_text negative (decimal e) ≡ 101 ∷ (sign_text negative ++ decimal e)
exponent_is negative e E = go (decimal e) (decimal_nonempty e E)
  where
    go : (ds : List ℕ) → 0 < length ds → exponent_text negative ds ≡ 101 ∷ (sign_text negative ++ ds)
    go [] h = absurd (omega arith)
    go (d ∷ ds) h = refl

-- all digits stand before the point
in_full : (d p : ℕ) → d < 2 ^ 64 → 400 ≤ p → (q : Parts) × IsNumeralOf (decimal d ++ replicate (p - 400) 48) d p q
in_full d p D P =
    let n = decimal_is_IsNumeral d D in
    let whole = decimal d ++ replicate (p - 400) 48 in
    let some = decimal_nonempty d D in
    let none : 400 - p ≡ 0 = omega arith in (
      parts whole false [] false [],
      record {
        text_is = sym (append-nil whole);
        well_formed = record { whole_digits = AllDigits-append _ _ n.0.1 (zeros_all (p - 400)); fraction_digits = tt; exponent_digits = tt; no_point = λ _. refl; no_exponent = λ _. refl; len_is = refl };
        whole = omega (arith, length-append (decimal d) (replicate (p - 400) 48));
        worth = rw (append-nil whole, digits_value-append (decimal d), zeros_value, n.1, length-replicate, none) (omega arith);
      },
    )

-- some after it
with_point : (d f p : ℕ) → d < 2 ^ 64 → p + f ≡ 400 → (q : Parts) × IsNumeralOf (pointed f d) d p q
with_point d f p D P =
    let front = d / 10 ^ f in
    let n = decimal_is_IsNumeral front (omega arith) in
    let places : length (last_digits f d) + 0 ≡ 400 - p = omega (arith, last_length f d) in
    let value : digits_value 10 (decimal front ++ last_digits f d) ≡ d = digits_value-append (decimal front) (last_digits f d) ∙ rw (n.1, last_length) (last_value f d) in (
      parts (decimal front) true (last_digits f d) false [],
      record {
        text_is = ap (λ l. decimal front ++ 46 ∷ l) (sym (append-nil (last_digits f d)));
        well_formed = record { whole_digits = n.0.1; fraction_digits = last_all f d; exponent_digits = tt; no_point = λ e. absurd (true≢false e); no_exponent = λ _. refl; len_is = refl };
        whole = decimal_nonempty front (omega arith);
        worth = rw (value, places) (tens_eq d 0 (400 - p) (p - 400) (400 - p) (omega arith));
      },
    )

-- one digit, and an exponent
one_digit : (d p e : ℕ) (negative : Bool) → d < 2 ^ 64 → e < 2 ^ 64 → cond negative 0 e + (400 - p) ≡ p - 400 + (0 + cond negative e 0)
    → (q : Parts) × IsNumeralOf (decimal d ++ (101 ∷ (sign_text negative ++ decimal e))) d p q
one_digit d p e negative D E places =
    let n = decimal_is_IsNumeral d D in
    let x = decimal_is_IsNumeral e E in (
      parts (decimal d) false [] negative (decimal e),
      record {
        text_is = ap (λ l. decimal d ++ l) (sym (exponent_is negative e E));
        well_formed = record { whole_digits = n.0.1; fraction_digits = tt; exponent_digits = x.0.1; no_point = λ _. refl; no_exponent = λ h. absurd (omega (arith, ap length h, decimal_nonempty e E)); len_is = refl };
        whole = decimal_nonempty d D;
        worth = rw (append-nil (decimal d), n.1, x.1) (tens_eq d (cond negative 0 e) (400 - p) (p - 400) (0 + cond negative e 0) places);
      },
    )

-- a point after the first digit, and an exponent
more_digits : (d f p e : ℕ) (negative : Bool) → d < 2 ^ 64 → e < 2 ^ 64 → cond negative 0 e + (400 - p) ≡ p - 400 + (f + cond negative e 0)
    → (q : Parts) × IsNumeralOf (pointed f d ++ (101 ∷ (sign_text negative ++ decimal e))) d p q
more_digits d f p e negative D E places =
    let front = d / 10 ^ f in
    let n = decimal_is_IsNumeral front (omega arith) in
    let x = decimal_is_IsNumeral e E in
    let value : digits_value 10 (decimal front ++ last_digits f d) ≡ d = digits_value-append (decimal front) (last_digits f d) ∙ rw (n.1, last_length) (last_value f d) in (
      parts (decimal front) true (last_digits f d) negative (decimal e),
      record {
        text_is = append_assoc (decimal front) _ _ ∙ ap (λ l. decimal front ++ (46 ∷ last_digits f d ++ l)) (sym (exponent_is negative e E));
        well_formed = record { whole_digits = n.0.1; fraction_digits = last_all f d; exponent_digits = x.0.1; no_point = λ h. absurd (true≢false h); no_exponent = λ h. absurd (omega (arith, ap length h, decimal_nonempty e E)); len_is = refl };
        whole = decimal_nonempty front (omega arith);
        worth = rw (value, x.1, last_length f d) (tens_eq d (cond negative 0 e) (400 - p) (p - 400) (f + cond negative e 0) places);
      },
    )

with_exponent : (n d p : ℕ) → 0 < n → d < 2 ^ 64 → n + p < 2 ^ 64 → (q : Parts) × IsNumeralOf (cond (eqb n 1) (decimal d) (pointed (n - 1) d) ++ (101 ∷ printed_exponent (n + p))) d p q
with_exponent n d p N D P =
    elim (cases_lt (n + p) 401) [
      | inl l ↦ rw (lt-ltb (n + p) 401 l) (elim (cases_Bool (eqb n 1)) [
        | inl t ↦ let one = eqb-true _ _ t in rw t (one_digit d p (401 - (n + p)) true D (omega arith) (omega arith))
        | inr t ↦ rw t (more_digits d (n - 1) p (401 - (n + p)) true D (omega arith) (omega arith))
      ])
      | inr l ↦ rw (le-ltb (n + p) 401 l) (elim (cases_Bool (eqb n 1)) [
        | inl t ↦ let one = eqb-true _ _ t in rw t (one_digit d p (n + p - 401) false D (omega arith) (omega arith))
        | inr t ↦ rw t (more_digits d (n - 1) p (n + p - 401) false D (omega arith) (omega arith))
      ])
    ]

pub numeral_of : (n d p : ℕ) → 0 < n → d < 2 ^ 64 → n + p < 2 ^ 64 → (q : Parts) × IsNumeralOf (laid_out n d p) d p q
numeral_of n d p N D P =
    elim (cases_lt p 400) [
      | inl a ↦ rw (lt-ltb p 400 a) (elim (cases_lt (n + p) 396) [
        | inl b ↦ rw (lt-ltb (n + p) 396 b) (with_exponent n d p N D P)
        | inr b ↦ rw (le-ltb (n + p) 396 b) (with_point d (400 - p) p D (omega arith))
      ])
      | inr a ↦ rw (le-ltb p 400 a) (elim (cases_lt 417 (n + p)) [
        | inl b ↦ rw (lt-ltb 417 (n + p) b) (with_exponent n d p N D P)
        | inr b ↦ rw (le-ltb 417 (n + p) b) (in_full d p D a)
      ])
    ]
