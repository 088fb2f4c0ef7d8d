-- Which texts are plain, and the rows of such fields.
use Rattle.std.proofs.Common.{◌≡◌, ℕ, ◌+◌, ◌-◌, ◌*◌, ◌<◌, ◌≤◌, ◌/◌, ◌%◌, ◌^◌, zero, suc, true, false, Bool, List, [], ◌∷◌, ◌++◌, map, length, take, get_or, decimal, append_assoc, refl, sym, ap, ◌∙◌, arith, rules}
use Rattle.std.specs.Prelude.{if◌then◌else◌, ◌==◌, ◌||◌, nat_lt, codes, ℤ, pos, negsuc, replicate}
use Rattle.std.specs.Fmt.{signed_decimal, digits, digits_onto, digit_glyph}
use Rattle.std.specs.Float.Ieee.{Format, binary32, binary64, hid, ones, low, top}
use Rattle.std.specs.List.{AllByRecursion, flat_map}
use Rattle.std.proofs.lemmas.Bool.{ne_eqb}
use Rattle.std.proofs.lemmas.Grind.{flat_map-append}
use Rattle.std.proofs.lemmas.List.{append-nil, length-append}
use Rattle.csv.specs.Writing.{needs_byte, needs_quotes, default_writer, field_text, fields_text, is_blank, quoted, row_body}
use Rattle.ncc_decimal.specs.Floats.{significand, exponent, nearness, minus}
use Rattle.ncc_decimal.specs.Printed.{float_text as shortest_text, magnitude_text, finite_text, shortest_digits, shortest_power}
use Rattle.ncc_decimal.specs.Texts.{last_digits, pointed, exponent_text, scientific, laid_out}
use Rattle.ncc_lines.specs.Words.{hex_digit, byte_digits}
use Rattle.ncc_lines.specs.declared.style.FloatStyle.{FloatStyle}
use Rattle.ncc_lines.specs.declared.style.FloatStyle.TheVariants.{Bits, Decimal}
use Rattle.ncc_values.specs.External.{bytes_in}
use Rattle.ncc_values.specs.declared.xtype.XType.TheVariants.{Float, Double}
use Rattle.ncc_values.specs.declared.raw.F32Bits.{F32Bits}
use Rattle.ncc_values.specs.declared.raw.F64Bits.{F64Bits}
use Rattle.ncc_csv.specs.Plain.{IsPlain, with_comma, with_commas}
use Rattle.ncc_csv.specs.Rows.{row_line}
use Rattle.ncc_csv.specs.Values.{bits_text, float_text, double_text}

-- ---- bytes after the comma in ASCII

abbrev Above : (text : List ℕ) → Type 0
Above text = AllByRecursion (λ b. 44 < b) text

-- a byte at least, and all of them such
abbrev IsWord : (text : List ℕ) → Type 0
IsWord text = (0 < length text) × Above text

or_false : (a b : Bool) → a ≡ false → b ≡ false → (a || b) ≡ false
or_false false b p q = q
or_false true b p q = p

no_mark : (b : ℕ) → 44 < b → needs_byte default_writer b ≡ false
no_mark b gt =
    let comma : (b == 44) ≡ false = ne_eqb b 44 (λ e. omega (arith, e)) in
    let quote : (b == 34) ≡ false = ne_eqb b 34 (λ e. omega (arith, e)) in
    let return : (b == 13) ≡ false = ne_eqb b 13 (λ e. omega (arith, e)) in
    let feed : (b == 10) ≡ false = ne_eqb b 10 (λ e. omega (arith, e)) in
    rw (comma, quote, return, feed) refl

no_marks : (text : List ℕ) → Above text → needs_quotes default_writer text ≡ false
no_marks [] above = refl
no_marks (b ∷ text) above = or_false _ _ (no_mark b above.0) (no_marks text above.1)

plain_word : (text : List ℕ) → IsWord text → IsPlain text
plain_word text w = record { some = w.0; unquoted = no_marks text w.1 }

above-append : (a b : List ℕ) → Above a → Above b → Above (a ++ b)
above-append [] b p q = q
above-append (x ∷ a) b p q = (p.0, above-append a b p.1 q)

word_first : (a b : List ℕ) → IsWord a → Above b → IsWord (a ++ b)
word_first a b p q = (omega (arith, p.0, length-append a b), above-append a b p.1 q)

word_last : (a b : List ℕ) → Above a → IsWord b → IsWord (a ++ b)
word_last a b p q = (omega (arith, q.0, length-append a b), above-append a b p q.1)

-- of a choice

byte_if : (c : Bool) (x y : ℕ) → 44 < x → 44 < y → 44 < (if c then x else y)
byte_if true x y p q = p
byte_if false x y p q = q

above_if : (c : Bool) (x y : List ℕ) → Above x → Above y → Above (if c then x else y)
above_if true x y p q = p
above_if false x y p q = q

word_if : (c : Bool) (x y : List ℕ) → IsWord x → IsWord y → IsWord (if c then x else y)
word_if true x y p q = p
word_if false x y p q = q

-- ---- integers

glyph_above : (d : ℕ) → 44 < digit_glyph false d
glyph_above d = byte_if (nat_lt d 10) (48 + d) (87 + d) (omega arith) (omega arith)

onto_word : (k n : ℕ) (text : List ℕ) → IsWord text → IsWord (digits_onto k 10 false n text)
onto_word zero n text w = w
onto_word (suc k) n text w =
    let more = digit_glyph false (n % 10) ∷ text in
    let next : IsWord more = (omega arith, (glyph_above (n % 10), w.1)) in
    word_if (n / 10 == 0) more (digits_onto k 10 false (n / 10) more) next (onto_word k (n / 10) more next)

digits_word : (k n : ℕ) → IsWord (digits_onto (suc k) 10 false n [])
digits_word k n =
    let last = digit_glyph false (n % 10) ∷ [] in
    let one : IsWord last = (omega arith, (glyph_above (n % 10), tt)) in
    word_if (n / 10 == 0) last (digits_onto k 10 false (n / 10) last) one (onto_word k (n / 10) last one)

decimal_word : (n : ℕ) → IsWord (decimal n)
unfolding digits
decimal_word n = digits_word 63 n

signed_word : (z : ℤ) → IsWord (signed_decimal z)
signed_word (pos n) = decimal_word n
signed_word (negsuc n) = word_last (45 ∷ []) (decimal (suc n)) (omega arith, tt) (decimal_word (suc n))

pub plain_decimal : (n : ℕ) → IsPlain (decimal n)
plain_decimal n = plain_word (decimal n) (decimal_word n)

pub plain_signed : (z : ℤ) → IsPlain (signed_decimal z)
plain_signed z = plain_word (signed_decimal z) (signed_word z)

pub plain_decimals : (numbers : List ℕ) → AllByRecursion IsPlain (map decimal numbers)
plain_decimals [] = tt
plain_decimals (n ∷ numbers) = (plain_decimal n, plain_decimals numbers)

-- ---- bits in hexadecimal

hex_above : (n : ℕ) → 44 < hex_digit n
hex_above n = byte_if (nat_lt n 10) (48 + n) (87 + n) (omega arith) (omega arith)

bytes_above : (bytes : List ℕ) → Above (flat_map byte_digits bytes)
bytes_above [] = tt
bytes_above (b ∷ bytes) = (hex_above (b / 16), (hex_above (b % 16), bytes_above bytes))

plain_bits : (bytes : List ℕ) → IsPlain (bits_text bytes)
plain_bits bytes = plain_word (bits_text bytes) (omega arith, (omega arith, (omega arith, bytes_above bytes)))

-- ---- floats in decimal

last_above : (f n : ℕ) → Above (last_digits f n)
unfolding last_digits
last_above zero n = tt
last_above (suc f) n = (omega arith, last_above f n)

zeros_above : (k : ℕ) → Above (replicate k 48)
zeros_above zero = tt
zeros_above (suc k) = (omega arith, zeros_above k)

pointed_word : (f d : ℕ) → IsWord (pointed f d)
pointed_word f d = word_first (decimal (d / 10 ^ f)) (46 ∷ last_digits f d) (decimal_word (d / 10 ^ f)) (omega arith, last_above f d)

exponent_above : (e : ℕ) → Above (exponent_text e)
exponent_above e =
    above_if (nat_lt e 401) (45 ∷ decimal (401 - e)) (decimal (e - 401)) (omega arith, (decimal_word (401 - e)).1) (decimal_word (e - 401)).1

scientific_word : (n d e : ℕ) → IsWord (scientific n d e)
scientific_word n d e =
    let digits = if n == 1 then decimal d else pointed (n - 1) d in
    word_first digits (101 ∷ exponent_text e) (word_if (n == 1) (decimal d) (pointed (n - 1) d) (decimal_word d) (pointed_word (n - 1) d)) (omega arith, exponent_above e)

laid_out_word : (n d p : ℕ) → IsWord (laid_out n d p)
laid_out_word n d p =
    let short = scientific_word n d (n + p) in
    word_if (nat_lt p 400) _ _
    (word_if (nat_lt (n + p) 396) (scientific n d (n + p)) (pointed (400 - p) d) short (pointed_word (400 - p) d))
    (word_if (nat_lt 417 (n + p)) (scientific n d (n + p)) (decimal d ++ replicate (p - 400) 48) short
    (word_first (decimal d) (replicate (p - 400) 48) (decimal_word d) (zeros_above (p - 400))))

finite_word : (m k near : ℕ) → IsWord (finite_text m k near)
finite_word m k near =
    let digits = shortest_digits m k near in
    laid_out_word (length (decimal digits)) digits (shortest_power m k near)

magnitude_word : (hidden infinity lift magnitude : ℕ) → IsWord (magnitude_text hidden infinity lift magnitude)
magnitude_word hidden infinity lift magnitude =
    word_if (magnitude == infinity) _ _ (search rules)
    (word_if (magnitude == 0) _ _ (search rules) (finite_word (significand hidden magnitude) (exponent hidden lift magnitude) (nearness hidden magnitude)))

minus_above : (top bits : ℕ) → Above (minus top bits)
minus_above top bits = above_if (nat_lt bits top) [] (45 ∷ []) tt (omega arith, tt)

plain_shortest : (f : Format) (bits : ℕ) → IsPlain (shortest_text f bits)
plain_shortest f bits =
    plain_word (shortest_text f bits) (word_if (nat_lt (ones f * hid f) (bits % top f)) (codes "NaN") _ (search rules) (word_last (minus (top f) bits) _ (minus_above (top f) bits)
    (magnitude_word (hid f) (ones f * hid f) (1074 - low f) (bits % top f))))

pub plain_float : (style : FloatStyle) (x : F32Bits) → IsPlain (float_text style x)
plain_float Bits x = plain_bits (bytes_in Float (pos x.0))
plain_float Decimal x = plain_shortest binary32 x.0

pub plain_double : (style : FloatStyle) (x : F64Bits) → IsPlain (double_text style x)
plain_double Bits x = plain_bits (bytes_in Double (pos x.0))
plain_double Decimal x = plain_shortest binary64 x.0

-- ---- rows

shown : (field : List ℕ) → IsPlain field → field_text default_writer field ≡ field
shown field plain = ap (λ (b : Bool). if b then quoted default_writer field else field) plain.unquoted

-- a field before others
before : (field : List ℕ) (heads : List (List ℕ)) (last : List ℕ) → field ++ 44 ∷ (with_commas heads ++ last) ≡ with_commas (field ∷ heads) ++ last
before field heads last =
    sym (append_assoc (with_comma field) (with_commas heads) last ∙ append_assoc field (44 ∷ []) (with_commas heads ++ last))

fields_joined : (heads : List (List ℕ)) (last : List ℕ) → AllByRecursion IsPlain heads → IsPlain last
    → fields_text default_writer (heads ++ last ∷ []) ≡ 44 ∷ (with_commas heads ++ last)
unfolding fields_text
fields_joined [] last all plain = ap (λ (t : List ℕ). 44 ∷ t) (append-nil (field_text default_writer last) ∙ shown last plain)
fields_joined (field ∷ heads) last all plain =
    ap (λ (t : List ℕ). 44 ∷ (t ++ fields_text default_writer (heads ++ last ∷ []))) (shown field all.0)
    ∙ ap (λ (t : List ℕ). 44 ∷ (field ++ t)) (fields_joined heads last all.1 plain)
    ∙ ap (λ (t : List ℕ). 44 ∷ t) (before field heads last)

body_joined : (heads : List (List ℕ)) (last : List ℕ) → AllByRecursion IsPlain heads → IsPlain last
    → row_body default_writer (heads ++ last ∷ []) ≡ with_commas heads ++ last
unfolding fields_text
body_joined [] last all plain =
    append-nil (field_text default_writer last) ∙ shown last plain
body_joined (field ∷ heads) last all plain =
    ap (λ (t : List ℕ). t ++ fields_text default_writer (heads ++ last ∷ [])) (shown field all.0)
    ∙ ap (λ (t : List ℕ). field ++ t) (fields_joined heads last all.1 plain)
    ∙ before field heads last

not_blank : (heads : List (List ℕ)) (last : List ℕ) → IsPlain last → is_blank default_writer (heads ++ last ∷ []) ≡ false
unfolding is_blank
not_blank [] last plain =
    ne_eqb (length (field_text default_writer last)) 0 (λ e. omega (arith, e, ap (λ (t : List ℕ). length t) (shown last plain), plain.some))
not_blank (field ∷ []) last plain = refl
not_blank (field ∷ next ∷ heads) last plain = refl

-- a row of plain fields
pub plain_row : (heads : List (List ℕ)) (last : List ℕ) → AllByRecursion IsPlain heads → IsPlain last
    → row_line (heads ++ last ∷ []) ≡ with_commas heads ++ (last ++ 10 ∷ [])
plain_row heads last all plain =
    ap (λ (t : List ℕ). t ++ ((if is_blank default_writer (heads ++ last ∷ []) then 34 ∷ 34 ∷ [] else []) ++ 10 ∷ [])) (body_joined heads last all plain)
    ∙ ap (λ (b : Bool). (with_commas heads ++ last) ++ ((if b then 34 ∷ 34 ∷ [] else []) ++ 10 ∷ [])) (not_blank heads last plain)
    ∙ append_assoc (with_commas heads) last (10 ∷ [])

all-append : (heads : List (List ℕ)) (field : List ℕ) → AllByRecursion IsPlain heads → IsPlain field → AllByRecursion IsPlain (heads ++ field ∷ [])
all-append [] field all plain = (plain, tt)
all-append (head ∷ heads) field all plain = (all.0, all-append heads field all.1 plain)

-- the fields, and after them one more
pub one_comma : (heads : List (List ℕ)) (field : List ℕ) → with_commas (heads ++ field ∷ []) ≡ with_commas heads ++ (field ++ 44 ∷ [])
one_comma heads field =
    flat_map-append with_comma heads (field ∷ []) ∙ ap (λ (t : List ℕ). with_commas heads ++ t) (append-nil (with_comma field))

-- the first of them, with a comma after one more, have no more bytes than all
pub words_before : (texts : List (List ℕ)) (k : ℕ) → k < length texts → length (with_commas (take k texts)) + length (get_or texts k []) + 1 ≤ length (with_commas texts)
words_before [] k lt = absurd (omega (arith, lt))
words_before (t ∷ texts) zero lt = omega (arith, length-append (with_comma t) (with_commas texts), length-append t (44 ∷ []))
words_before (t ∷ texts) (suc k) lt =
    let more = words_before texts k (omega (arith, lt)) in
    omega (arith, more, length-append (with_comma t) (with_commas (take k texts)), length-append (with_comma t) (with_commas texts))

-- a row of heads, an index and a value
pub run_line : (heads : List (List ℕ)) (index : ℕ) (value : List ℕ) → AllByRecursion IsPlain heads → IsPlain value
    → row_line (heads ++ decimal index ∷ value ∷ []) ≡ with_commas heads ++ (decimal index ++ 44 ∷ (value ++ 10 ∷ []))
run_line heads index value all plain =
    ap (λ (r : List (List ℕ)). row_line r) (sym (append_assoc heads (decimal index ∷ []) (value ∷ [])))
    ∙ plain_row (heads ++ decimal index ∷ []) value (all-append heads (decimal index) all (plain_decimal index)) plain
    ∙ ap (λ (t : List ℕ). t ++ (value ++ 10 ∷ [])) (one_comma heads (decimal index))
    ∙ append_assoc (with_commas heads) (with_comma (decimal index)) (value ++ 10 ∷ [])
    ∙ ap (λ (t : List ℕ). with_commas heads ++ t) (append_assoc (decimal index) (44 ∷ []) (value ++ 10 ∷ []))
