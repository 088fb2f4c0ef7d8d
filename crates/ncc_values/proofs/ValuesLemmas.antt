-- Values and their bytes.
use Rattle.std.proofs.Common.{◌≡◌, ℕ, ◌+◌, ◌*◌, List, [], ◌++◌, length, refl, sym, ap, subst, ◌∙◌, arith, append_assoc, append-nil, length-append}
use Rattle.std.specs.Prelude.{ℤ, pos, negsuc, ◌≤ℤ◌, unsigned_abs}
use Rattle.std.proofs.lemmas.Int.{ints}
use Rattle.ncc_values.specs.Numbers.{IsBytes}
use Rattle.ncc_values.specs.declared.values.Values.{Values}
use Rattle.ncc_values.specs.declared.values.Values.TheVariants.{Bytes, Chars, Shorts, Ints, Floats, Doubles, UBytes, UShorts, UInts, Int64s, UInt64s}
use Rattle.ncc_values.specs.declared.xtype.XType.{XType}
use Rattle.ncc_values.specs.declared.xtype.XType.TheVariants.{Byte, Char, Short, Int, Float, Double, UByte, UShort, UInt, Int64, UInt64}
use Rattle.ncc_values.specs.ExternalLaws.{number_in-bytes_in, bytes_in-number_in}
use Rattle.ncc_values.specs.Raw.{char_of, float_of, double_of}
use Rattle.ncc_values.specs.Values.{bytes_by, type_of, count_of, bytes_of, no_values, with_bytes, values_of, AreNumbersOf, AreInRange}
use Rattle.ncc_values.specs.XType.{size_of}
use Rattle.ncc_values.proofs.ElementsLemmas.{length-bytes_by, bytes-bytes_by, bytes_by-append, length-elements_of, elements_of-append, bytes_by-elements_of, elements_of-bytes_by, elements_of-counted, numbers-elements_from}

-- ---- types

pub type_of-no_values : (t : XType) → type_of (no_values t) ≡ t
type_of-no_values Byte = refl
type_of-no_values Char = refl
type_of-no_values Short = refl
type_of-no_values Int = refl
type_of-no_values Float = refl
type_of-no_values Double = refl
type_of-no_values UByte = refl
type_of-no_values UShort = refl
type_of-no_values UInt = refl
type_of-no_values Int64 = refl
type_of-no_values UInt64 = refl

pub type_of-with_bytes : (v : Values) (bytes : List ℕ) → type_of (with_bytes v bytes) ≡ type_of v
type_of-with_bytes (Bytes items) bytes = refl
type_of-with_bytes (Chars items) bytes = refl
type_of-with_bytes (Shorts items) bytes = refl
type_of-with_bytes (Ints items) bytes = refl
type_of-with_bytes (Floats items) bytes = refl
type_of-with_bytes (Doubles items) bytes = refl
type_of-with_bytes (UBytes items) bytes = refl
type_of-with_bytes (UShorts items) bytes = refl
type_of-with_bytes (UInts items) bytes = refl
type_of-with_bytes (Int64s items) bytes = refl
type_of-with_bytes (UInt64s items) bytes = refl

pub type_of-values_of : (t : XType) (bytes : List ℕ) → type_of (values_of t bytes) ≡ t
type_of-values_of t bytes = type_of-with_bytes (no_values t) bytes ∙ type_of-no_values t

-- ---- how many

pub count_of-no_values : (t : XType) → count_of (no_values t) ≡ 0
count_of-no_values Byte = refl
count_of-no_values Char = refl
count_of-no_values Short = refl
count_of-no_values Int = refl
count_of-no_values Float = refl
count_of-no_values Double = refl
count_of-no_values UByte = refl
count_of-no_values UShort = refl
count_of-no_values UInt = refl
count_of-no_values Int64 = refl
count_of-no_values UInt64 = refl

pub count_of-with_bytes : (v : Values) (k : ℕ) (bytes : List ℕ) → length bytes ≡ k * size_of (type_of v) → count_of (with_bytes v bytes) ≡ count_of v + k
count_of-with_bytes (Bytes items) k bytes e = length-append items _ ∙ ap (λ (n : ℕ). length items + n) (length-elements_of (λ z. z) Byte k bytes e)
count_of-with_bytes (Chars items) k bytes e = length-append items _ ∙ ap (λ (n : ℕ). length items + n) (length-elements_of char_of Char k bytes e)
count_of-with_bytes (Shorts items) k bytes e = length-append items _ ∙ ap (λ (n : ℕ). length items + n) (length-elements_of (λ z. z) Short k bytes e)
count_of-with_bytes (Ints items) k bytes e = length-append items _ ∙ ap (λ (n : ℕ). length items + n) (length-elements_of (λ z. z) Int k bytes e)
count_of-with_bytes (Floats items) k bytes e = length-append items _ ∙ ap (λ (n : ℕ). length items + n) (length-elements_of float_of Float k bytes e)
count_of-with_bytes (Doubles items) k bytes e = length-append items _ ∙ ap (λ (n : ℕ). length items + n) (length-elements_of double_of Double k bytes e)
count_of-with_bytes (UBytes items) k bytes e = length-append items _ ∙ ap (λ (n : ℕ). length items + n) (length-elements_of unsigned_abs UByte k bytes e)
count_of-with_bytes (UShorts items) k bytes e = length-append items _ ∙ ap (λ (n : ℕ). length items + n) (length-elements_of unsigned_abs UShort k bytes e)
count_of-with_bytes (UInts items) k bytes e = length-append items _ ∙ ap (λ (n : ℕ). length items + n) (length-elements_of unsigned_abs UInt k bytes e)
count_of-with_bytes (Int64s items) k bytes e = length-append items _ ∙ ap (λ (n : ℕ). length items + n) (length-elements_of (λ z. z) Int64 k bytes e)
count_of-with_bytes (UInt64s items) k bytes e = length-append items _ ∙ ap (λ (n : ℕ). length items + n) (length-elements_of unsigned_abs UInt64 k bytes e)

pub count_of-values_of : (t : XType) (k : ℕ) (bytes : List ℕ) → length bytes ≡ k * size_of t → count_of (values_of t bytes) ≡ k
count_of-values_of t k bytes e =
    let same : length bytes ≡ k * size_of (type_of (no_values t)) = rw (type_of-no_values t) e in
    omega (arith, count_of-with_bytes (no_values t) k bytes same, count_of-no_values t)

-- ---- bytes

pub length-bytes_of : (v : Values) → length (bytes_of v) ≡ count_of v * size_of (type_of v)
length-bytes_of (Bytes items) = length-bytes_by (λ x. x) Byte items
length-bytes_of (Chars items) = length-bytes_by (λ x. pos x.0) Char items
length-bytes_of (Shorts items) = length-bytes_by (λ x. x) Short items
length-bytes_of (Ints items) = length-bytes_by (λ x. x) Int items
length-bytes_of (Floats items) = length-bytes_by (λ x. pos x.0) Float items
length-bytes_of (Doubles items) = length-bytes_by (λ x. pos x.0) Double items
length-bytes_of (UBytes items) = length-bytes_by (λ x. pos x) UByte items
length-bytes_of (UShorts items) = length-bytes_by (λ x. pos x) UShort items
length-bytes_of (UInts items) = length-bytes_by (λ x. pos x) UInt items
length-bytes_of (Int64s items) = length-bytes_by (λ x. x) Int64 items
length-bytes_of (UInt64s items) = length-bytes_by (λ x. pos x) UInt64 items

pub bytes-bytes_of : (v : Values) → IsBytes (bytes_of v)
bytes-bytes_of (Bytes items) = bytes-bytes_by (λ x. x) Byte items
bytes-bytes_of (Chars items) = bytes-bytes_by (λ x. pos x.0) Char items
bytes-bytes_of (Shorts items) = bytes-bytes_by (λ x. x) Short items
bytes-bytes_of (Ints items) = bytes-bytes_by (λ x. x) Int items
bytes-bytes_of (Floats items) = bytes-bytes_by (λ x. pos x.0) Float items
bytes-bytes_of (Doubles items) = bytes-bytes_by (λ x. pos x.0) Double items
bytes-bytes_of (UBytes items) = bytes-bytes_by (λ x. pos x) UByte items
bytes-bytes_of (UShorts items) = bytes-bytes_by (λ x. pos x) UShort items
bytes-bytes_of (UInts items) = bytes-bytes_by (λ x. pos x) UInt items
bytes-bytes_of (Int64s items) = bytes-bytes_by (λ x. x) Int64 items
bytes-bytes_of (UInt64s items) = bytes-bytes_by (λ x. pos x) UInt64 items

pub bytes_of-no_values : (t : XType) → bytes_of (no_values t) ≡ []
bytes_of-no_values Byte = refl
bytes_of-no_values Char = refl
bytes_of-no_values Short = refl
bytes_of-no_values Int = refl
bytes_of-no_values Float = refl
bytes_of-no_values Double = refl
bytes_of-no_values UByte = refl
bytes_of-no_values UShort = refl
bytes_of-no_values UInt = refl
bytes_of-no_values Int64 = refl
bytes_of-no_values UInt64 = refl

-- the bytes that were added stand behind those of before
pub bytes_of-with_bytes : (v : Values) (k : ℕ) (bytes : List ℕ) → IsBytes bytes → length bytes ≡ k * size_of (type_of v) → bytes_of (with_bytes v bytes) ≡ bytes_of v ++ bytes
bytes_of-with_bytes (Bytes items) k bytes h e = bytes_by-append (λ x. x) Byte items _ ∙ ap (λ (b : List ℕ). bytes_by (λ x. x) Byte items ++ b) (bytes_by-elements_of (λ z. z) (λ x. x) Byte k bytes (bytes_in-number_in Byte) h e)
bytes_of-with_bytes (Chars items) k bytes h e = bytes_by-append (λ x. pos x.0) Char items _ ∙ ap (λ (b : List ℕ). bytes_by (λ x. pos x.0) Char items ++ b) (bytes_by-elements_of char_of (λ x. pos x.0) Char k bytes (bytes_in-number_in Char) h e)
bytes_of-with_bytes (Shorts items) k bytes h e = bytes_by-append (λ x. x) Short items _ ∙ ap (λ (b : List ℕ). bytes_by (λ x. x) Short items ++ b) (bytes_by-elements_of (λ z. z) (λ x. x) Short k bytes (bytes_in-number_in Short) h e)
bytes_of-with_bytes (Ints items) k bytes h e = bytes_by-append (λ x. x) Int items _ ∙ ap (λ (b : List ℕ). bytes_by (λ x. x) Int items ++ b) (bytes_by-elements_of (λ z. z) (λ x. x) Int k bytes (bytes_in-number_in Int) h e)
bytes_of-with_bytes (Floats items) k bytes h e = bytes_by-append (λ x. pos x.0) Float items _ ∙ ap (λ (b : List ℕ). bytes_by (λ x. pos x.0) Float items ++ b) (bytes_by-elements_of float_of (λ x. pos x.0) Float k bytes (bytes_in-number_in Float) h e)
bytes_of-with_bytes (Doubles items) k bytes h e = bytes_by-append (λ x. pos x.0) Double items _ ∙ ap (λ (b : List ℕ). bytes_by (λ x. pos x.0) Double items ++ b) (bytes_by-elements_of double_of (λ x. pos x.0) Double k bytes (bytes_in-number_in Double) h e)
bytes_of-with_bytes (UBytes items) k bytes h e = bytes_by-append (λ x. pos x) UByte items _ ∙ ap (λ (b : List ℕ). bytes_by (λ x. pos x) UByte items ++ b) (bytes_by-elements_of unsigned_abs (λ x. pos x) UByte k bytes (bytes_in-number_in UByte) h e)
bytes_of-with_bytes (UShorts items) k bytes h e = bytes_by-append (λ x. pos x) UShort items _ ∙ ap (λ (b : List ℕ). bytes_by (λ x. pos x) UShort items ++ b) (bytes_by-elements_of unsigned_abs (λ x. pos x) UShort k bytes (bytes_in-number_in UShort) h e)
bytes_of-with_bytes (UInts items) k bytes h e = bytes_by-append (λ x. pos x) UInt items _ ∙ ap (λ (b : List ℕ). bytes_by (λ x. pos x) UInt items ++ b) (bytes_by-elements_of unsigned_abs (λ x. pos x) UInt k bytes (bytes_in-number_in UInt) h e)
bytes_of-with_bytes (Int64s items) k bytes h e = bytes_by-append (λ x. x) Int64 items _ ∙ ap (λ (b : List ℕ). bytes_by (λ x. x) Int64 items ++ b) (bytes_by-elements_of (λ z. z) (λ x. x) Int64 k bytes (bytes_in-number_in Int64) h e)
bytes_of-with_bytes (UInt64s items) k bytes h e = bytes_by-append (λ x. pos x) UInt64 items _ ∙ ap (λ (b : List ℕ). bytes_by (λ x. pos x) UInt64 items ++ b) (bytes_by-elements_of unsigned_abs (λ x. pos x) UInt64 k bytes (bytes_in-number_in UInt64) h e)

-- the bytes of the values that bytes spell are these
pub bytes_of-values_of : (t : XType) (k : ℕ) (bytes : List ℕ) → IsBytes bytes → length bytes ≡ k * size_of t → bytes_of (values_of t bytes) ≡ bytes
bytes_of-values_of t k bytes h e =
    let same : length bytes ≡ k * size_of (type_of (no_values t)) = rw (type_of-no_values t) e in
    bytes_of-with_bytes (no_values t) k bytes h same ∙ ap (λ (b : List ℕ). b ++ bytes) (bytes_of-no_values t)

-- the values that the bytes of values spell are these
pub values_of-bytes_of : (v : Values) → AreInRange v → values_of (type_of v) (bytes_of v) ≡ v
values_of-bytes_of (Bytes items) h = ap Bytes (elements_of-bytes_by (λ z. z) (λ x. x) Byte items (number_in-bytes_in Byte) h)
values_of-bytes_of (Chars items) h = ap Chars (elements_of-bytes_by char_of (λ x. pos x.0) Char items (λ x r. ap char_of (number_in-bytes_in Char (pos x.0) r)) h)
values_of-bytes_of (Shorts items) h = ap Shorts (elements_of-bytes_by (λ z. z) (λ x. x) Short items (number_in-bytes_in Short) h)
values_of-bytes_of (Ints items) h = ap Ints (elements_of-bytes_by (λ z. z) (λ x. x) Int items (number_in-bytes_in Int) h)
values_of-bytes_of (Floats items) h = ap Floats (elements_of-bytes_by float_of (λ x. pos x.0) Float items (λ x r. ap float_of (number_in-bytes_in Float (pos x.0) r)) h)
values_of-bytes_of (Doubles items) h = ap Doubles (elements_of-bytes_by double_of (λ x. pos x.0) Double items (λ x r. ap double_of (number_in-bytes_in Double (pos x.0) r)) h)
values_of-bytes_of (UBytes items) h = ap UBytes (elements_of-bytes_by unsigned_abs (λ x. pos x) UByte items (λ x r. ap unsigned_abs (number_in-bytes_in UByte (pos x) r)) h)
values_of-bytes_of (UShorts items) h = ap UShorts (elements_of-bytes_by unsigned_abs (λ x. pos x) UShort items (λ x r. ap unsigned_abs (number_in-bytes_in UShort (pos x) r)) h)
values_of-bytes_of (UInts items) h = ap UInts (elements_of-bytes_by unsigned_abs (λ x. pos x) UInt items (λ x r. ap unsigned_abs (number_in-bytes_in UInt (pos x) r)) h)
values_of-bytes_of (Int64s items) h = ap Int64s (elements_of-bytes_by (λ z. z) (λ x. x) Int64 items (number_in-bytes_in Int64) h)
values_of-bytes_of (UInt64s items) h = ap UInt64s (elements_of-bytes_by unsigned_abs (λ x. pos x) UInt64 items (λ x r. ap unsigned_abs (number_in-bytes_in UInt64 (pos x) r)) h)

unsigned_again : (z : ℤ) → pos 0 ≤ℤ z → pos (unsigned_abs z) ≡ z
unsigned_again (pos n) low = refl
unsigned_again (negsuc n) low = absurd (omega (arith, ints))

-- what bytes spell is in range
pub in_range-values_of : (t : XType) (k : ℕ) (bytes : List ℕ) → IsBytes bytes → length bytes ≡ k * size_of t → AreInRange (values_of t bytes)
in_range-values_of Byte k bytes h e = subst (λ items. AreNumbersOf (λ x. x) Byte items) (sym (elements_of-counted (λ z. z) Byte k bytes e)) (numbers-elements_from (λ z. z) (λ x. x) Byte k bytes (λ z r. refl) h e)
in_range-values_of Char k bytes h e = subst (λ items. AreNumbersOf (λ x. pos x.0) Char items) (sym (elements_of-counted char_of Char k bytes e)) (numbers-elements_from char_of (λ x. pos x.0) Char k bytes (λ z r. unsigned_again z r.0) h e)
in_range-values_of Short k bytes h e = subst (λ items. AreNumbersOf (λ x. x) Short items) (sym (elements_of-counted (λ z. z) Short k bytes e)) (numbers-elements_from (λ z. z) (λ x. x) Short k bytes (λ z r. refl) h e)
in_range-values_of Int k bytes h e = subst (λ items. AreNumbersOf (λ x. x) Int items) (sym (elements_of-counted (λ z. z) Int k bytes e)) (numbers-elements_from (λ z. z) (λ x. x) Int k bytes (λ z r. refl) h e)
in_range-values_of Float k bytes h e = subst (λ items. AreNumbersOf (λ x. pos x.0) Float items) (sym (elements_of-counted float_of Float k bytes e)) (numbers-elements_from float_of (λ x. pos x.0) Float k bytes (λ z r. unsigned_again z r.0) h e)
in_range-values_of Double k bytes h e = subst (λ items. AreNumbersOf (λ x. pos x.0) Double items) (sym (elements_of-counted double_of Double k bytes e)) (numbers-elements_from double_of (λ x. pos x.0) Double k bytes (λ z r. unsigned_again z r.0) h e)
in_range-values_of UByte k bytes h e = subst (λ items. AreNumbersOf (λ x. pos x) UByte items) (sym (elements_of-counted unsigned_abs UByte k bytes e)) (numbers-elements_from unsigned_abs (λ x. pos x) UByte k bytes (λ z r. unsigned_again z r.0) h e)
in_range-values_of UShort k bytes h e = subst (λ items. AreNumbersOf (λ x. pos x) UShort items) (sym (elements_of-counted unsigned_abs UShort k bytes e)) (numbers-elements_from unsigned_abs (λ x. pos x) UShort k bytes (λ z r. unsigned_again z r.0) h e)
in_range-values_of UInt k bytes h e = subst (λ items. AreNumbersOf (λ x. pos x) UInt items) (sym (elements_of-counted unsigned_abs UInt k bytes e)) (numbers-elements_from unsigned_abs (λ x. pos x) UInt k bytes (λ z r. unsigned_again z r.0) h e)
in_range-values_of Int64 k bytes h e = subst (λ items. AreNumbersOf (λ x. x) Int64 items) (sym (elements_of-counted (λ z. z) Int64 k bytes e)) (numbers-elements_from (λ z. z) (λ x. x) Int64 k bytes (λ z r. refl) h e)
in_range-values_of UInt64 k bytes h e = subst (λ items. AreNumbersOf (λ x. pos x) UInt64 items) (sym (elements_of-counted unsigned_abs UInt64 k bytes e)) (numbers-elements_from unsigned_abs (λ x. pos x) UInt64 k bytes (λ z r. unsigned_again z r.0) h e)

-- ---- more values

pub with_bytes-nil : (v : Values) → with_bytes v [] ≡ v
with_bytes-nil (Bytes items) = ap Bytes (append-nil items)
with_bytes-nil (Chars items) = ap Chars (append-nil items)
with_bytes-nil (Shorts items) = ap Shorts (append-nil items)
with_bytes-nil (Ints items) = ap Ints (append-nil items)
with_bytes-nil (Floats items) = ap Floats (append-nil items)
with_bytes-nil (Doubles items) = ap Doubles (append-nil items)
with_bytes-nil (UBytes items) = ap UBytes (append-nil items)
with_bytes-nil (UShorts items) = ap UShorts (append-nil items)
with_bytes-nil (UInts items) = ap UInts (append-nil items)
with_bytes-nil (Int64s items) = ap Int64s (append-nil items)
with_bytes-nil (UInt64s items) = ap UInt64s (append-nil items)

pub with_bytes-append : (v : Values) (j k : ℕ) (a b : List ℕ) → length a ≡ j * size_of (type_of v) → length b ≡ k * size_of (type_of v) → with_bytes v (a ++ b) ≡ with_bytes (with_bytes v a) b
with_bytes-append (Bytes items) j k a b ea eb = ap Bytes (ap (λ more. items ++ more) (elements_of-append (λ z. z) Byte j k a b ea eb) ∙ sym (append_assoc items _ _))
with_bytes-append (Chars items) j k a b ea eb = ap Chars (ap (λ more. items ++ more) (elements_of-append char_of Char j k a b ea eb) ∙ sym (append_assoc items _ _))
with_bytes-append (Shorts items) j k a b ea eb = ap Shorts (ap (λ more. items ++ more) (elements_of-append (λ z. z) Short j k a b ea eb) ∙ sym (append_assoc items _ _))
with_bytes-append (Ints items) j k a b ea eb = ap Ints (ap (λ more. items ++ more) (elements_of-append (λ z. z) Int j k a b ea eb) ∙ sym (append_assoc items _ _))
with_bytes-append (Floats items) j k a b ea eb = ap Floats (ap (λ more. items ++ more) (elements_of-append float_of Float j k a b ea eb) ∙ sym (append_assoc items _ _))
with_bytes-append (Doubles items) j k a b ea eb = ap Doubles (ap (λ more. items ++ more) (elements_of-append double_of Double j k a b ea eb) ∙ sym (append_assoc items _ _))
with_bytes-append (UBytes items) j k a b ea eb = ap UBytes (ap (λ more. items ++ more) (elements_of-append unsigned_abs UByte j k a b ea eb) ∙ sym (append_assoc items _ _))
with_bytes-append (UShorts items) j k a b ea eb = ap UShorts (ap (λ more. items ++ more) (elements_of-append unsigned_abs UShort j k a b ea eb) ∙ sym (append_assoc items _ _))
with_bytes-append (UInts items) j k a b ea eb = ap UInts (ap (λ more. items ++ more) (elements_of-append unsigned_abs UInt j k a b ea eb) ∙ sym (append_assoc items _ _))
with_bytes-append (Int64s items) j k a b ea eb = ap Int64s (ap (λ more. items ++ more) (elements_of-append (λ z. z) Int64 j k a b ea eb) ∙ sym (append_assoc items _ _))
with_bytes-append (UInt64s items) j k a b ea eb = ap UInt64s (ap (λ more. items ++ more) (elements_of-append unsigned_abs UInt64 j k a b ea eb) ∙ sym (append_assoc items _ _))

pub values_of-append : (t : XType) (j k : ℕ) (a b : List ℕ) → length a ≡ j * size_of t → length b ≡ k * size_of t → values_of t (a ++ b) ≡ with_bytes (values_of t a) b
values_of-append t j k a b ea eb =
    with_bytes-append (no_values t) j k a b (rw (type_of-no_values t) ea) (rw (type_of-no_values t) eb)
