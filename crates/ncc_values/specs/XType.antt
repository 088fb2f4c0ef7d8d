-- The external types, and which version has which (NetCDF Classic Format Specification, `nc_type`).
use Rattle.std.specs.Prelude.{ℕ, List, [], ◌∷◌, ◌++◌, Option, Some, None, Bool, true, false, ◌==◌, if◌then◌else◌, codes}
use Rattle.ncc_values.specs.declared.version.Version.{Version}
use Rattle.ncc_values.specs.declared.version.Version.TheVariants.{V1, V2, V5}
use Rattle.ncc_values.specs.declared.xtype.XType.{XType}
use Rattle.ncc_values.specs.declared.xtype.XType.TheVariants.{Byte, Char, Short, Int, Float, Double, UByte, UShort, UInt, Int64, UInt64}

-- the number that names the type in a file
abbrev pub code_of : XType → ℕ
code_of Byte = 1
code_of Char = 2
code_of Short = 3
code_of Int = 4
code_of Float = 5
code_of Double = 6
code_of UByte = 7
code_of UShort = 8
code_of UInt = 9
code_of Int64 = 10
code_of UInt64 = 11

-- the bytes of one element
abbrev pub size_of : XType → ℕ
size_of Byte = 1
size_of Char = 1
size_of Short = 2
size_of Int = 4
size_of Float = 4
size_of Double = 8
size_of UByte = 1
size_of UShort = 2
size_of UInt = 4
size_of Int64 = 8
size_of UInt64 = 8

-- whether its numbers have a sign; a float's bits have none
abbrev pub is_signed : XType → Bool
is_signed Byte = true
is_signed Char = false
is_signed Short = true
is_signed Int = true
is_signed Float = false
is_signed Double = false
is_signed UByte = false
is_signed UShort = false
is_signed UInt = false
is_signed Int64 = true
is_signed UInt64 = false

-- the word that names the type in a text
abbrev pub word_of : XType → List ℕ
word_of Byte = codes "byte"
word_of Char = codes "char"
word_of Short = codes "short"
word_of Int = codes "int"
word_of Float = codes "float"
word_of Double = codes "double"
word_of UByte = codes "ubyte"
word_of UShort = codes "ushort"
word_of UInt = codes "uint"
word_of Int64 = codes "int64"
word_of UInt64 = codes "uint64"

-- the types of every version, and those of CDF-5 alone
abbrev pub first_types : List XType
first_types = Byte ∷ Char ∷ Short ∷ Int ∷ Float ∷ Double ∷ []

abbrev pub late_types : List XType
late_types = UByte ∷ UShort ∷ UInt ∷ Int64 ∷ UInt64 ∷ []

-- the types of a version
abbrev pub types_of : Version → List XType
types_of V1 = first_types
types_of V2 = first_types
types_of V5 = first_types ++ late_types

-- the first of the types with this code
abbrev pub coded : List XType → ℕ → Option XType
coded [] n = None
coded (t ∷ types) n = if code_of t == n then Some t else coded types n

-- the type of the version with this code
abbrev pub type_of_code : Version → ℕ → Option XType
type_of_code version n = coded (types_of version) n
