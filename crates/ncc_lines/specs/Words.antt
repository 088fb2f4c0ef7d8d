-- Words of the lines that `ncc list` prints: names and values.
use Rattle.std.specs.Prelude.{ℕ, ℤ, Bool, ◌+◌, ◌/◌, ◌%◌, List, [], ◌∷◌, ◌++◌, nat_lt, ◌==◌, ◌&&◌, if◌then◌else◌, not, codes, decimal}
use Rattle.std.specs.Fmt.{signed_decimal}
use Rattle.std.specs.Int.{w32, w64, to_be_bytes}
use Rattle.std.specs.List.{flat_map}
use Rattle.std.specs.Float.Ieee.{binary32, binary64}
use Rattle.ncc_decimal.specs.Printed.{float_text}
use Rattle.ncc_lines.specs.declared.style.FloatStyle.{FloatStyle}
use Rattle.ncc_lines.specs.declared.style.FloatStyle.TheVariants.{Bits, Decimal}
use Rattle.ncc_values.specs.declared.raw.Char.{Char}
use Rattle.ncc_values.specs.declared.raw.F32Bits.{F32Bits}
use Rattle.ncc_values.specs.declared.raw.F64Bits.{F64Bits}
use Rattle.ncc_values.specs.declared.values.Values.{Values}
use Rattle.ncc_values.specs.declared.values.Values.TheVariants.{Bytes, Chars, Shorts, Ints, Floats, Doubles, UBytes, UShorts, UInts, Int64s, UInt64s}

-- ---- bytes

abbrev pub hex_digit : ℕ → ℕ
hex_digit n = if nat_lt n 10 then 48 + n else 87 + n

-- a byte, as two hexadecimal digits
abbrev pub byte_digits : ℕ → List ℕ
byte_digits b = hex_digit (b / 16) ∷ hex_digit (b % 16) ∷ []

-- the bytes 21 to 7e but the backslash print as they are
abbrev pub is_plain : ℕ → Bool
is_plain b = nat_lt 32 b && nat_lt b 127 && not (b == 92)

-- others as \x and two hexadecimal digits
abbrev pub escaped : ℕ → List ℕ
escaped b = if is_plain b then b ∷ [] else 92 ∷ 120 ∷ byte_digits b

abbrev pub name_text : List ℕ → List ℕ
name_text name = flat_map escaped name

-- ---- values: a number is a word after a space, and a text is one word

abbrev pub signed_word : ℤ → List ℕ
signed_word z = codes " " ++ signed_decimal z

abbrev pub unsigned_word : ℕ → List ℕ
unsigned_word n = codes " " ++ decimal n

-- the digits of the bytes, the most significant first
abbrev pub bits_word : (bytes : List ℕ) → List ℕ
bits_word bytes = codes " 0x" ++ flat_map byte_digits bytes

-- a float: its bits, or the shortest decimal that reads back
abbrev pub float_word : FloatStyle → F32Bits → List ℕ
float_word Bits x = bits_word (to_be_bytes w32 x.0)
float_word Decimal x = codes " " ++ float_text binary32 x.0

abbrev pub double_word : FloatStyle → F64Bits → List ℕ
double_word Bits x = bits_word (to_be_bytes w64 x.0)
double_word Decimal x = codes " " ++ float_text binary64 x.0

abbrev pub char_text : Char → List ℕ
char_text c = escaped c.0

abbrev pub chars_word : List Char → List ℕ
chars_word [] = []
chars_word (c ∷ chars) = codes " " ++ flat_map char_text (c ∷ chars)

-- what values add to a line
abbrev pub values_text : FloatStyle → Values → List ℕ
values_text style (Bytes items) = flat_map signed_word items
values_text style (Chars items) = chars_word items
values_text style (Shorts items) = flat_map signed_word items
values_text style (Ints items) = flat_map signed_word items
values_text style (Floats items) = flat_map (float_word style) items
values_text style (Doubles items) = flat_map (double_word style) items
values_text style (UBytes items) = flat_map unsigned_word items
values_text style (UShorts items) = flat_map unsigned_word items
values_text style (UInts items) = flat_map unsigned_word items
values_text style (Int64s items) = flat_map signed_word items
values_text style (UInt64s items) = flat_map unsigned_word items
