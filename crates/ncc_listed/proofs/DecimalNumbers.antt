-- The decimal of a finite float is a number of JSON, and that of any float is ASCII.
use Rattle.std.proofs.Common.{◌≡◌, ℕ, zero, suc, ◌+◌, ◌-◌, ◌*◌, ◌/◌, ◌%◌, ◌^◌, ◌<◌, ◌≤◌, Bool, true, false, cond, ◌||◌, ◌==◌, eqb, List, [], ◌∷◌, ◌++◌, length, drop, get_or, replicate, decimal, Some, None, option_and_then, inl, inr, refl, sym, ap, ap₂, subst, ◌∙◌, arith, append-nil, append_assoc, length-append}
use Rattle.std.proofs.lemmas.Bool.{cases_lt, cases_Bool, ne_eqb, le-leb, lt-ltb, le-ltb, ltb-true, and_from, eqb-true}
use Rattle.std.proofs.lemmas.Fmt.{decimal_is_IsNumeral, decimal_nonempty, first_decimal, IsAscii-from_digits, decimal_digit}
use Rattle.std.proofs.lemmas.List.{drop_at}
use Rattle.std.proofs.lemmas.Str.{IsAscii-append, IsUtf8-from_ascii}
use Rattle.std.proofs.lemmas.Str.Ascii.{IsAscii-cons, IsAscii-nil}
use Rattle.std.specs.Prelude.{codes}
use Rattle.std.specs.Char.{digit_value, is_ascii_digit}
use Rattle.std.specs.Float.Ieee.{Format, hid, low, ones, top}
use Rattle.std.specs.Fmt.{sign_text}
use Rattle.std.specs.List.{prefix_len}
use Rattle.std.specs.Str.{IsAscii, IsUtf8}
use Rattle.std.specs.Str.Parse.{AllDigits}
use Rattle.fast_float.proofs.DigitsLemmas.{is_digit}
use Rattle.fast_float.proofs.Rows.{AllDigits-append}
use Rattle.json.specs.Print.{IsNumber}
use Rattle.json.specs.Word.{head, after_digits, after_sign, after_whole, after_fraction, after_exponent, after_number}
use Rattle.ncc_decimal.specs.Floats.{significand, exponent, nearness, minus, IsMagnitudeText}
use Rattle.ncc_decimal.specs.Printed.{float_text}
use Rattle.ncc_decimal.specs.Shortest.{IsShortest, Reads}
use Rattle.ncc_decimal.specs.Texts.{decimal_text, exponent_text, laid_out, last_digits, pointed, scientific}
use Rattle.ncc_decimal.proofs.Decoded.{split_of}
use Rattle.ncc_decimal.proofs.Fewest.{one_shortest, zero_reads_not}
use Rattle.ncc_decimal.proofs.FewDigits.{few_of_double}
use Rattle.ncc_decimal.proofs.Found.{coarse_power}
use Rattle.ncc_decimal.proofs.Lengths.{at_most_17}
use Rattle.ncc_decimal.proofs.OneText.{float_text_is, found_by_bits, hidden_fits}
use Rattle.ncc_listed.specs.Values.{is_finite}

-- ---- digits

digit_range : (d : ℕ) → digit_value d < 10 → (48 ≤ d) × (d ≤ 57)
digit_range d h = grind arith

run : (ds r : List ℕ) → AllDigits 10 ds → prefix_len is_ascii_digit r ≡ 0 → prefix_len is_ascii_digit (ds ++ r) ≡ length ds
run [] r h none = none
run (d ∷ ds) r h none =
    let range = digit_range d h.0 in
    ap (λ b. cond b (1 + prefix_len is_ascii_digit (ds ++ r)) 0) (and_from _ _ (le-leb 48 d range.0) (le-leb d 57 range.1)) ∙ omega (arith, run ds r h.1 none)

digits_then : (ds r : List ℕ) → AllDigits 10 ds → 0 < length ds → prefix_len is_ascii_digit r ≡ 0 → after_digits (ds ++ r) ≡ Some r
digits_then ds r h some none =
    ap (λ n. cond (n == 0) None (Some (drop n (ds ++ r)))) (run ds r h none) ∙ ap (λ b. cond b None (Some (drop (length ds) (ds ++ r)))) (ne_eqb (length ds) 0 (λ e. omega arith))
    ∙ ap Some (drop_at ds r _ refl)

digits_alone : (ds : List ℕ) → AllDigits 10 ds → 0 < length ds → after_digits ds ≡ Some []
digits_alone ds h some = ap after_digits (sym (append-nil ds)) ∙ digits_then ds [] h some refl

zeros : (n : ℕ) → AllDigits 10 (replicate n 48)
zeros zero = tt
zeros (suc n) = (omega arith, zeros n)

last_all : (f d : ℕ) → AllDigits 10 (last_digits f d)
unfolding last_digits
last_all zero d = tt
last_all (suc f) d = (omega (arith, (is_digit (48 + d / 10 ^ f % 10) (omega arith) (omega arith)).1), last_all f d)

last_some : (f d : ℕ) → 0 < f → 0 < length (last_digits f d)
unfolding last_digits
last_some zero d some = absurd (omega arith)
last_some (suc f) d some = omega arith

-- ---- the parts of a number

-- digits before the point, the first of which isn't 0 before another
record IsWhole (w : List ℕ) : Type 0 where
  digits : AllDigits 10 w
  some : 0 < length w
  lead : head w ≡ 48 → length w ≡ 1

-- what may follow them
record IsRest (t : List ℕ) : Type 0 where
  number : option_and_then after_exponent (after_fraction t) ≡ Some []
  none : prefix_len is_ascii_digit t ≡ 0
  ascii : IsAscii t

-- a number without a sign
abbrev IsNumeral : List ℕ → Type 0
IsNumeral body = (w : List ℕ) × (t : List ℕ) × (body ≡ w ++ t) × IsWhole w × IsRest t

lone_zero : (ds r : List ℕ) → length ds ≡ 0 → ds ++ r ≡ r
lone_zero [] r e = refl
lone_zero (d ∷ ds) r e = absurd (omega arith)

by_first : (z : Bool) (d : ℕ) (ds r : List ℕ) → (z ≡ true → length ds ≡ 0) → after_digits (d ∷ ds ++ r) ≡ Some r → cond z (Some (ds ++ r)) (after_digits (d ∷ ds ++ r)) ≡ Some r
by_first true d ds r alone more = ap Some (lone_zero ds r (alone refl))
by_first false d ds r alone more = more

whole_then : (w r : List ℕ) → IsWhole w → prefix_len is_ascii_digit r ≡ 0 → (after_whole (w ++ r) ≡ Some r) × ((head (w ++ r) == 45) ≡ false)
whole_then [] r is none = absurd (omega (arith, is.some))
whole_then (d ∷ ds) r is none = (
  by_first (d == 48) d ds r (λ e. omega (arith, is.lead (eqb-true d 48 e))) (digits_then (d ∷ ds) r is.digits is.some none),
  ne_eqb d 45 (λ e. omega (arith, digit_range d is.digits.0)),
)

abbrev IsSigned : List ℕ → Type 0
IsSigned s = IsNumber s × IsAscii s

signed : (negative : Bool) (w t : List ℕ) → IsWhole w → IsRest t → IsNumber (sign_text negative ++ (w ++ t))
unfolding after_number
signed true w t whole rest = ap (λ o. option_and_then after_exponent (option_and_then after_fraction o)) (whole_then w t whole rest.none).0 ∙ rest.number
signed false w t whole rest =
    let u = whole_then w t whole rest.none in
    ap (λ b. option_and_then after_exponent (option_and_then after_fraction (after_whole (cond b (drop 1 (w ++ t)) (w ++ t))))) u.1
    ∙ ap (λ o. option_and_then after_exponent (option_and_then after_fraction o)) u.0
    ∙ rest.number

sign_ascii : (negative : Bool) → IsAscii (sign_text negative)
sign_ascii true = IsAscii-cons 45 [] (omega arith) IsAscii-nil
sign_ascii false = IsAscii-nil

with_sign : (negative : Bool) (body : List ℕ) → IsNumeral body → IsSigned (sign_text negative ++ body)
with_sign negative body is =
    subst (λ b. IsSigned (sign_text negative ++ b)) (sym is.2) (
      signed negative is.0 is.1 is.3 is.4,
      IsAscii-append (sign_text negative) (is.0 ++ is.1) (sign_ascii negative) (IsAscii-append is.0 is.1 (IsAscii-from_digits is.0 is.3.digits) is.4.ascii),
    )

-- ---- whole parts

first_is : (w : List ℕ) → 0 < length w → head w ≡ get_or w 0 0
first_is [] h = absurd (omega arith)
first_is (d ∷ ds) h = refl

zero_whole : IsWhole (codes "0")
zero_whole = record { digits = (omega arith, tt); some = omega arith; lead = λ e. refl }

more_whole : (n : ℕ) → 0 < n → n < 2 ^ 64 → (zeros : List ℕ) → AllDigits 10 zeros → IsWhole (decimal n ++ zeros)
more_whole n some small zeros all =
    let long = decimal_nonempty n small in
    let first : head (decimal n ++ zeros) ≡ get_or (decimal n) 0 0 = begins (decimal n) zeros long in
    record {
      digits = AllDigits-append (decimal n) zeros (decimal_is_IsNumeral n small).0.1 all;
      some = omega (arith, long, length-append (decimal n) zeros);
      lead = λ e. absurd (omega (arith, e, first, first_decimal n some small));
    }
  where
    begins : (w r : List ℕ) → 0 < length w → head (w ++ r) ≡ get_or w 0 0
    begins [] r h = absurd (omega arith)
    begins (d ∷ ds) r h = refl

decimal_whole : (n : ℕ) → n < 2 ^ 64 → IsWhole (decimal n)
decimal_whole zero small = subst IsWhole (sym (decimal_digit 0 (omega arith))) zero_whole
decimal_whole (suc n) small = subst IsWhole (append-nil (decimal (suc n))) (more_whole (suc n) (omega arith) small [] tt)

-- ---- what follows

no_rest : IsRest []
no_rest = record { number = refl; none = refl; ascii = IsAscii-nil }

-- the text of an exponent
record IsExponent (e : List ℕ) : Type 0 where
  number : after_digits (after_sign e) ≡ Some []
  ascii : IsAscii e

exponent_rest : (e : List ℕ) → IsExponent e → IsRest (101 ∷ e)
exponent_rest e is = record { number = is.number; none = refl; ascii = IsAscii-cons 101 e (omega arith) is.ascii }

-- a fraction, and what follows it
fraction_rest : (ds t : List ℕ) → AllDigits 10 ds → 0 < length ds → after_exponent t ≡ Some [] → prefix_len is_ascii_digit t ≡ 0 → IsAscii t → IsRest (46 ∷ (ds ++ t))
fraction_rest ds t all some ends none ascii = record {
  number = ap (option_and_then after_exponent) (digits_then ds t all some none) ∙ ends;
  none = refl;
  ascii = IsAscii-cons 46 (ds ++ t) (omega arith) (IsAscii-append ds t (IsAscii-from_digits ds all) ascii);
}

no_sign : (ds : List ℕ) → AllDigits 10 ds → after_sign ds ≡ ds
no_sign [] h = refl
no_sign (d ∷ ds) h =
    let range = digit_range d h.0 in
    ap (λ b. cond b ds (d ∷ ds)) (ap₂ (λ a b. a || b) (ne_eqb d 45 (λ e. omega (arith, range))) (ne_eqb d 43 (λ e. omega (arith, range))))

digits_exponent : (ds : List ℕ) → AllDigits 10 ds → 0 < length ds → IsExponent ds
digits_exponent ds all some = record { number = ap after_digits (no_sign ds all) ∙ digits_alone ds all some; ascii = IsAscii-from_digits ds all }

minus_exponent : (ds : List ℕ) → AllDigits 10 ds → 0 < length ds → IsExponent (45 ∷ ds)
minus_exponent ds all some = record { number = digits_alone ds all some; ascii = IsAscii-cons 45 ds (omega arith) (IsAscii-from_digits ds all) }

printed_exponent : (e : ℕ) → e < 2 ^ 64 → IsExponent (exponent_text e)
printed_exponent e small =
    elim (cases_lt e 401) [
      | inl l ↦ rw (lt-ltb e 401 l) (minus_exponent (decimal (401 - e)) (decimal_is_IsNumeral (401 - e) (omega arith)).0.1 (decimal_nonempty (401 - e) (omega arith)))
      | inr l ↦ rw (le-ltb e 401 l) (digits_exponent (decimal (e - 401)) (decimal_is_IsNumeral (e - 401) (omega arith)).0.1 (decimal_nonempty (e - 401) (omega arith)))
    ]

-- ---- decimals

pointed_numeral : (f d : ℕ) → 0 < f → d < 2 ^ 64 → IsNumeral (pointed f d)
pointed_numeral f d some small = (
  decimal (d / 10 ^ f),
  46 ∷ (last_digits f d ++ []),
  ap (λ l. decimal (d / 10 ^ f) ++ 46 ∷ l) (sym (append-nil (last_digits f d))),
  decimal_whole (d / 10 ^ f) (omega arith),
  fraction_rest (last_digits f d) [] (last_all f d) (last_some f d some) refl refl IsAscii-nil,
)

pointed_exponent : (f d : ℕ) (e : List ℕ) → 0 < f → d < 2 ^ 64 → IsExponent e → IsNumeral (pointed f d ++ (101 ∷ e))
pointed_exponent f d e some small is = (
  decimal (d / 10 ^ f),
  46 ∷ (last_digits f d ++ (101 ∷ e)),
  append_assoc (decimal (d / 10 ^ f)) (46 ∷ last_digits f d) (101 ∷ e),
  decimal_whole (d / 10 ^ f) (omega arith),
  fraction_rest (last_digits f d) (101 ∷ e) (last_all f d) (last_some f d some) is.number refl (exponent_rest e is).ascii,
)

scientific_numeral : (n d e : ℕ) → 0 < n → d < 2 ^ 64 → e < 2 ^ 64 → IsNumeral (scientific n d e)
scientific_numeral n d e some small few =
    elim (cases_Bool (eqb n 1)) [
      | inl t ↦ rw t (decimal d, 101 ∷ exponent_text e, refl, decimal_whole d small, exponent_rest (exponent_text e) (printed_exponent e few))
      | inr t ↦ rw t (pointed_exponent (n - 1) d (exponent_text e) (several n t some) small (printed_exponent e few))
    ]
  where
    several : (m : ℕ) → eqb m 1 ≡ false → 0 < m → 0 < m - 1
    several zero t h = absurd (omega arith)
    several (suc zero) t h = absurd (cc t)
    several (suc (suc m)) t h = omega arith

laid_out_numeral : (n d p : ℕ) → 0 < n → 0 < d → d < 2 ^ 64 → n + p < 2 ^ 64 → IsNumeral (laid_out n d p)
laid_out_numeral n d p some more small few =
    elim (cases_lt p 400) [
      | inl a ↦ rw (lt-ltb p 400 a) (elim (cases_lt (n + p) 396) [
        | inl b ↦ rw (lt-ltb (n + p) 396 b) (scientific_numeral n d (n + p) some small few)
        | inr b ↦ rw (le-ltb (n + p) 396 b) (pointed_numeral (400 - p) d (omega arith) small)
      ])
      | inr a ↦ rw (le-ltb p 400 a) (elim (cases_lt 417 (n + p)) [
        | inl b ↦ rw (lt-ltb 417 (n + p) b) (scientific_numeral n d (n + p) some small few)
        | inr b ↦ rw (le-ltb 417 (n + p) b) (decimal d ++ replicate (p - 400) 48, [], sym (append-nil (decimal d ++ replicate (p - 400) 48)), more_whole d more small (replicate (p - 400) 48) (zeros (p - 400)), no_rest)
      ])
    ]

-- ---- floats

near_two : (h magnitude : ℕ) → nearness h magnitude ≤ 2
near_two h magnitude = grind arith

finite_numeral : (f : Format) (magnitude d p : ℕ) → 0 < magnitude → magnitude < ones f * hid f → IsShortest (significand (hid f) magnitude) (exponent (hid f) (1074 - low f) magnitude) (nearness (hid f) magnitude) d p
    → IsNumeral (decimal_text d p)
finite_numeral f magnitude d p some finite is =
    let fits = hidden_fits f in
    let m = significand (hid f) magnitude in
    let k = exponent (hid f) (1074 - low f) magnitude in
    let near = nearness (hid f) magnitude in
    let few : d < 10 ^ 17 = few_of_double (hid f) magnitude k d p fits.0 fits.1 some is in
    let power : p < 800 = omega (arith, (one_shortest m k near d p _ _ is (found_by_bits f magnitude some finite)).1, coarse_power m k near) in
    let small : d < 2 ^ 64 = omega (arith, few) in
    let more : 0 < d = elim (cases_lt 0 d) [
      | inl l ↦ l
      | inr l ↦ let none : d ≡ 0 = omega arith in absurd (zero_reads_not m k near p (split_of (hid f) magnitude fits.0 some).some (near_two (hid f) magnitude) (subst (λ e. Reads m k near e p) none is.reads))
    ] in
    laid_out_numeral (length (decimal d)) d p (decimal_nonempty d small) more small (omega (arith, at_most_17 d few, power))

other_signed : (f : Format) (negative : Bool) (magnitude : ℕ) (body : List ℕ) → magnitude < ones f * hid f → IsMagnitudeText (hid f) (ones f * hid f) (1074 - low f) magnitude body → IsSigned (sign_text negative ++ body)
other_signed f negative magnitude body finite is =
    elim (cases_lt 0 magnitude) [
      | inl s ↦ let t = is.finite s finite in with_sign negative body (subst IsNumeral (sym t.3) (finite_numeral f magnitude t.0 t.1 s finite t.2))
      | inr s ↦ with_sign negative body (subst IsNumeral (sym (is.zero (omega arith))) (codes "0", [], refl, zero_whole, no_rest))
    ]

-- the sign of the bits
sign_is : (top bits : ℕ) → (negative : Bool) × (minus top bits ≡ sign_text negative)
sign_is top bits =
    elim (cases_lt bits top) [
      | inl l ↦ (false, rw (lt-ltb bits top l) refl)
      | inr l ↦ (true, rw (le-ltb bits top l) refl)
    ]

finite_signed : (f : Format) (bits : ℕ) → bits % top f < ones f * hid f → IsSigned (float_text f bits)
finite_signed f bits finite =
    let t = (float_text_is f bits).other (omega (arith, finite)) in
    let sign = sign_is (top f) bits in
    subst IsSigned (sym (t.2 ∙ ap (λ (l : List ℕ). l ++ t.0) sign.1)) (other_signed f sign.0 (bits % top f) t.0 finite t.1)

nan_ascii : IsAscii (codes "NaN")
nan_ascii = IsAscii-cons 78 (codes "aN") (omega arith) (IsAscii-cons 97 (codes "N") (omega arith) (IsAscii-cons 78 [] (omega arith) IsAscii-nil))

infinity_ascii : IsAscii (codes "Infinity")
infinity_ascii =
    IsAscii-cons 73 (codes "nfinity") (omega arith) (IsAscii-cons 110 (codes "finity") (omega arith) (IsAscii-cons 102 (codes "inity") (omega arith) (IsAscii-cons 105 (codes "nity") (omega arith) (IsAscii-cons 110 (codes "ity") (omega arith) (IsAscii-cons 105 (codes "ty") (omega arith) (IsAscii-cons 116 (codes "y") (omega arith) (IsAscii-cons 121 [] (omega arith) IsAscii-nil)))))))

infinite_ascii : (f : Format) (bits : ℕ) → bits % top f ≡ ones f * hid f → IsAscii (float_text f bits)
infinite_ascii f bits at =
    let t = (float_text_is f bits).other (omega (arith, at)) in
    let sign = sign_is (top f) bits in
    subst IsAscii (sym (t.2 ∙ ap₂ (λ (l m : List ℕ). l ++ m) sign.1 (t.1.infinite at))) (IsAscii-append (sign_text sign.0) (codes "Infinity") (sign_ascii sign.0) infinity_ascii)

text_ascii : (f : Format) (bits : ℕ) → IsAscii (float_text f bits)
text_ascii f bits =
    elim (cases_lt (ones f * hid f) (bits % top f)) [
      | inl l ↦ subst IsAscii (sym ((float_text_is f bits).nan l)) nan_ascii
      | inr l ↦ elim (cases_lt (bits % top f) (ones f * hid f)) [
        | inl m ↦ (finite_signed f bits m).1
        | inr m ↦ infinite_ascii f bits (omega (arith, l, m))
      ]
    ]

pub text_is_utf8 : (f : Format) (bits : ℕ) → IsUtf8 (float_text f bits)
text_is_utf8 f bits = IsUtf8-from_ascii (float_text f bits) (text_ascii f bits)

pub decimal_is_number : (f : Format) (bits : ℕ) → is_finite f bits ≡ true → IsNumber (float_text f bits)
decimal_is_number f bits finite = (finite_signed f bits (ltb-true (bits % top f) (ones f * hid f) finite)).0
