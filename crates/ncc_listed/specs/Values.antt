-- The values of an attribute as tokens of JSON.
use Rattle.std.specs.Prelude.{ℕ, ℤ, ◌*◌, ◌%◌, nat_lt, Bool, List, [], ◌∷◌, ◌++◌, map, codes, decimal, if◌then◌else◌}
use Rattle.std.specs.Float.Ieee.{Format, binary32, binary64, hid, ones, top}
use Rattle.std.specs.Fmt.{signed_decimal}
use Rattle.std.specs.Int.{w32, w64, to_be_bytes}
use Rattle.hex.specs.Hex.{encode_lower}
use Rattle.json.specs.Token.{Token, end_array, number, string}
use Rattle.ncc_decimal.specs.Printed.{float_text}
use Rattle.ncc_json.specs.Members.{bytes_member, list_start}
use Rattle.ncc_lines.specs.declared.style.FloatStyle.{FloatStyle}
use Rattle.ncc_lines.specs.declared.style.FloatStyle.TheVariants.{Bits, Decimal}
use Rattle.ncc_values.specs.declared.raw.F32Bits.{F32Bits}
use Rattle.ncc_values.specs.declared.raw.F64Bits.{F64Bits}
use Rattle.ncc_values.specs.declared.values.Values.{Values}
use Rattle.ncc_values.specs.declared.values.Values.TheVariants.{Bytes, Chars, Shorts, Ints, Floats, Doubles, UBytes, UShorts, UInts, Int64s, UInt64s}

-- ---- a value

abbrev pub signed_token : ℤ → Token
signed_token z = number (signed_decimal z)

abbrev pub unsigned_token : ℕ → Token
unsigned_token n = number (decimal n)

-- the bits of a float in hexadecimal, as a text
abbrev pub bits_token : (bytes : List ℕ) → Token
bits_token bytes = string (codes "0x" ++ encode_lower bytes)

-- neither an infinity nor a NaN
abbrev pub is_finite : Format → (bits : ℕ) → Bool
is_finite f bits = nat_lt (bits % top f) (ones f * hid f)

-- a number, or a text where JSON has no number for it
abbrev pub decimal_token : (is_number : Bool) → (text : List ℕ) → Token
decimal_token is_number text = if is_number then number text else string text

-- a float: its bits, or the shortest decimal that reads back
abbrev pub float_token : FloatStyle → F32Bits → Token
float_token Bits x = bits_token (to_be_bytes w32 x.0)
float_token Decimal x = decimal_token (is_finite binary32 x.0) (float_text binary32 x.0)

abbrev pub double_token : FloatStyle → F64Bits → Token
double_token Bits x = bits_token (to_be_bytes w64 x.0)
double_token Decimal x = decimal_token (is_finite binary64 x.0) (float_text binary64 x.0)

-- ---- values: numbers are a list, and characters a text

unfoldable pub numbers_member : List Token → List Token
numbers_member tokens = list_start (codes "values") ++ (tokens ++ (end_array ∷ []))

abbrev pub values_member : FloatStyle → Values → List Token
values_member style (Bytes items) = numbers_member (map signed_token items)
values_member style (Chars items) = bytes_member (codes "values") (map (λ c. c.0) items)
values_member style (Shorts items) = numbers_member (map signed_token items)
values_member style (Ints items) = numbers_member (map signed_token items)
values_member style (Floats items) = numbers_member (map (float_token style) items)
values_member style (Doubles items) = numbers_member (map (double_token style) items)
values_member style (UBytes items) = numbers_member (map unsigned_token items)
values_member style (UShorts items) = numbers_member (map unsigned_token items)
values_member style (UInts items) = numbers_member (map unsigned_token items)
values_member style (Int64s items) = numbers_member (map signed_token items)
values_member style (UInt64s items) = numbers_member (map unsigned_token items)
