-- Values of one type: their elements, and the bytes that these have in a file, one after the other.
use Rattle.std.specs.Prelude.{ℕ, zero, suc, ◌/◌, ℤ, pos, List, [], ◌∷◌, ◌++◌, length, take, drop, unsigned_abs}
use Rattle.std.specs.List.{AllByRecursion, flat_map}
use Rattle.ncc_values.specs.declared.values.Values.{Values}
use Rattle.ncc_values.specs.declared.values.Values.TheVariants.{Bytes, Chars, Shorts, Ints, Floats, Doubles, UBytes, UShorts, UInts, Int64s, UInt64s}
use Rattle.ncc_values.specs.declared.xtype.XType.{XType}
use Rattle.ncc_values.specs.declared.xtype.XType.TheVariants.{Byte, Char, Short, Int, Float, Double, UByte, UShort, UInt, Int64, UInt64}
use Rattle.ncc_values.specs.External.{number_in, bytes_in, IsNumberOf}
use Rattle.ncc_values.specs.Raw.{char_of, float_of, double_of}
use Rattle.ncc_values.specs.XType.{size_of}

-- ---- elements of any type, each by its number

-- the first k elements that the bytes spell
abbrev pub elements_from : {A : Type 0} → (ℤ → A) → XType → ℕ → List ℕ → List A
elements_from element t zero bytes = []
elements_from element t (suc k) bytes =
    element (number_in t (take (size_of t) bytes)) ∷ elements_from element t k (drop (size_of t) bytes)

-- the elements that the bytes spell
abbrev pub elements_of : {A : Type 0} → (ℤ → A) → XType → List ℕ → List A
elements_of element t bytes = elements_from element t (length bytes / size_of t) bytes

-- the bytes of the elements
abbrev pub bytes_by : {A : Type 0} → (A → ℤ) → XType → List A → List ℕ
bytes_by number t items = flat_map (λ x. bytes_in t (number x)) items

-- ---- values

abbrev pub type_of : Values → XType
type_of (Bytes items) = Byte
type_of (Chars items) = Char
type_of (Shorts items) = Short
type_of (Ints items) = Int
type_of (Floats items) = Float
type_of (Doubles items) = Double
type_of (UBytes items) = UByte
type_of (UShorts items) = UShort
type_of (UInts items) = UInt
type_of (Int64s items) = Int64
type_of (UInt64s items) = UInt64

-- how many elements there are
abbrev pub count_of : Values → ℕ
count_of (Bytes items) = length items
count_of (Chars items) = length items
count_of (Shorts items) = length items
count_of (Ints items) = length items
count_of (Floats items) = length items
count_of (Doubles items) = length items
count_of (UBytes items) = length items
count_of (UShorts items) = length items
count_of (UInts items) = length items
count_of (Int64s items) = length items
count_of (UInt64s items) = length items

-- their bytes
abbrev pub bytes_of : Values → List ℕ
bytes_of (Bytes items) = bytes_by (λ x. x) Byte items
bytes_of (Chars items) = bytes_by (λ x. pos x.0) Char items
bytes_of (Shorts items) = bytes_by (λ x. x) Short items
bytes_of (Ints items) = bytes_by (λ x. x) Int items
bytes_of (Floats items) = bytes_by (λ x. pos x.0) Float items
bytes_of (Doubles items) = bytes_by (λ x. pos x.0) Double items
bytes_of (UBytes items) = bytes_by (λ x. pos x) UByte items
bytes_of (UShorts items) = bytes_by (λ x. pos x) UShort items
bytes_of (UInts items) = bytes_by (λ x. pos x) UInt items
bytes_of (Int64s items) = bytes_by (λ x. x) Int64 items
bytes_of (UInt64s items) = bytes_by (λ x. pos x) UInt64 items

-- no values of the type
abbrev pub no_values : XType → Values
no_values Byte = Bytes []
no_values Char = Chars []
no_values Short = Shorts []
no_values Int = Ints []
no_values Float = Floats []
no_values Double = Doubles []
no_values UByte = UBytes []
no_values UShort = UShorts []
no_values UInt = UInts []
no_values Int64 = Int64s []
no_values UInt64 = UInt64s []

-- the values, and after them those that the bytes spell
abbrev pub with_bytes : Values → List ℕ → Values
with_bytes (Bytes items) bytes = Bytes (items ++ elements_of (λ z. z) Byte bytes)
with_bytes (Chars items) bytes = Chars (items ++ elements_of char_of Char bytes)
with_bytes (Shorts items) bytes = Shorts (items ++ elements_of (λ z. z) Short bytes)
with_bytes (Ints items) bytes = Ints (items ++ elements_of (λ z. z) Int bytes)
with_bytes (Floats items) bytes = Floats (items ++ elements_of float_of Float bytes)
with_bytes (Doubles items) bytes = Doubles (items ++ elements_of double_of Double bytes)
with_bytes (UBytes items) bytes = UBytes (items ++ elements_of unsigned_abs UByte bytes)
with_bytes (UShorts items) bytes = UShorts (items ++ elements_of unsigned_abs UShort bytes)
with_bytes (UInts items) bytes = UInts (items ++ elements_of unsigned_abs UInt bytes)
with_bytes (Int64s items) bytes = Int64s (items ++ elements_of (λ z. z) Int64 bytes)
with_bytes (UInt64s items) bytes = UInt64s (items ++ elements_of unsigned_abs UInt64 bytes)

-- the values of the type that the bytes spell
abbrev pub values_of : XType → List ℕ → Values
values_of t bytes = with_bytes (no_values t) bytes

-- ---- values that a file can hold

-- each is a number of the type
abbrev pub AreNumbersOf : {A : Type 0} → (A → ℤ) → XType → List A → Type 0
AreNumbersOf number t items = AllByRecursion (λ x. IsNumberOf t (number x)) items

-- each is in the range of its Rust type, as all values of the program are
abbrev pub AreInRange : Values → Type 0
AreInRange (Bytes items) = AreNumbersOf (λ x. x) Byte items
AreInRange (Chars items) = AreNumbersOf (λ x. pos x.0) Char items
AreInRange (Shorts items) = AreNumbersOf (λ x. x) Short items
AreInRange (Ints items) = AreNumbersOf (λ x. x) Int items
AreInRange (Floats items) = AreNumbersOf (λ x. pos x.0) Float items
AreInRange (Doubles items) = AreNumbersOf (λ x. pos x.0) Double items
AreInRange (UBytes items) = AreNumbersOf (λ x. pos x) UByte items
AreInRange (UShorts items) = AreNumbersOf (λ x. pos x) UShort items
AreInRange (UInts items) = AreNumbersOf (λ x. pos x) UInt items
AreInRange (Int64s items) = AreNumbersOf (λ x. x) Int64 items
AreInRange (UInt64s items) = AreNumbersOf (λ x. pos x) UInt64 items
