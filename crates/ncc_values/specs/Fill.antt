-- Default fill values (NetCDF Classic Format Specification, "The Format in Detail", FILL_BYTE and its kin; "Note on fill values").
use Rattle.std.specs.Prelude.{ℕ, List, [], ◌∷◌}
use Rattle.ncc_values.specs.declared.xtype.XType.{XType}
use Rattle.ncc_values.specs.declared.xtype.XType.TheVariants.{Byte, Char, Short, Int, Float, Double, UByte, UShort, UInt, Int64, UInt64}

-- the bytes of the type's default fill value
abbrev pub fill_of : XType → List ℕ
fill_of Byte = 0x81 ∷ []
fill_of Char = 0x00 ∷ []
fill_of Short = 0x80 ∷ 0x01 ∷ []
fill_of Int = 0x80 ∷ 0x00 ∷ 0x00 ∷ 0x01 ∷ []
fill_of Float = 0x7c ∷ 0xf0 ∷ 0x00 ∷ 0x00 ∷ []
fill_of Double = 0x47 ∷ 0x9e ∷ 0x00 ∷ 0x00 ∷ 0x00 ∷ 0x00 ∷ 0x00 ∷ 0x00 ∷ []
fill_of UByte = 0xff ∷ []
fill_of UShort = 0xff ∷ 0xff ∷ []
fill_of UInt = 0xff ∷ 0xff ∷ 0xff ∷ 0xff ∷ []
fill_of Int64 = 0x80 ∷ 0x00 ∷ 0x00 ∷ 0x00 ∷ 0x00 ∷ 0x00 ∷ 0x00 ∷ 0x02 ∷ []
fill_of UInt64 = 0xff ∷ 0xff ∷ 0xff ∷ 0xff ∷ 0xff ∷ 0xff ∷ 0xff ∷ 0xfe ∷ []
