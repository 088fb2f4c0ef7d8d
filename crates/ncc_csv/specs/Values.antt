-- What a row shows of a value.
use Rattle.std.specs.Prelude.{ℕ, ℤ, pos, negsuc, Bool, true, false, List, ◌++◌, if◌then◌else◌, codes, decimal}
use Rattle.std.specs.Fmt.{signed_decimal}
use Rattle.std.specs.List.{flat_map}
use Rattle.ncc_values.specs.External.{bytes_in}
use Rattle.ncc_values.specs.declared.raw.Char.{Char as TheChar}
use Rattle.ncc_values.specs.declared.raw.F32Bits.{F32Bits}
use Rattle.ncc_values.specs.declared.raw.F64Bits.{F64Bits}
use Rattle.ncc_values.specs.declared.xtype.XType.{XType}
use Rattle.ncc_values.specs.declared.xtype.XType.TheVariants.{Byte, Char, Short, Int, Float, Double, UByte, UShort, UInt, Int64, UInt64}
use Rattle.std.specs.Float.Ieee.{binary32, binary64}
use Rattle.ncc_decimal.specs.Printed.{float_text as shortest_text}
use Rattle.ncc_lines.specs.Words.{byte_digits}
use Rattle.ncc_lines.specs.declared.style.FloatStyle.{FloatStyle}
use Rattle.ncc_lines.specs.declared.style.FloatStyle.TheVariants.{Bits, Decimal}

-- the floats
abbrev pub is_float : XType → Bool
is_float Byte = false
is_float Char = false
is_float Short = false
is_float Int = false
is_float Float = true
is_float Double = true
is_float UByte = false
is_float UShort = false
is_float UInt = false
is_float Int64 = false
is_float UInt64 = false

-- the digits of the bytes, the most significant first
abbrev pub bits_text : (bytes : List ℕ) → List ℕ
bits_text bytes = codes "0x" ++ flat_map byte_digits bytes

-- a float's number is that of its bits, which is none below 0
abbrev pub bits_of : ℤ → ℕ
bits_of (pos n) = n
bits_of (negsuc n) = 0

-- the shortest decimal that reads back to these bits
abbrev pub shortest_of : XType → (bits : ℕ) → List ℕ
shortest_of Double bits = shortest_text binary64 bits
shortest_of t bits = shortest_text binary32 bits

-- a float: the digits of its bytes, or the shortest decimal
abbrev pub styled_text : FloatStyle → XType → ℤ → List ℕ
styled_text Bits t z = bits_text (bytes_in t z)
styled_text Decimal t z = shortest_of t (bits_of z)

-- a number of the type: an integer in decimal, a float in this style
abbrev pub number_text : FloatStyle → XType → ℤ → List ℕ
number_text style t z = if is_float t then styled_text style t z else signed_decimal z

-- ---- the same of a value

abbrev pub char_text : TheChar → List ℕ
char_text c = decimal c.0

abbrev pub float_text : FloatStyle → F32Bits → List ℕ
float_text style x = number_text style Float (pos x.0)

abbrev pub double_text : FloatStyle → F64Bits → List ℕ
double_text style x = number_text style Double (pos x.0)
