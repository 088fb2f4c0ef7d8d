-- Characters and the bits of floats, each by its number.
use Rattle.std.specs.Prelude.{ℤ, unsigned_abs}
use Rattle.ncc_values.specs.declared.raw.Char.{Char}
use Rattle.ncc_values.specs.declared.raw.F32Bits.{F32Bits}
use Rattle.ncc_values.specs.declared.raw.F64Bits.{F64Bits}

abbrev pub char_of : ℤ → Char
char_of z = record { 0 = unsigned_abs z }

abbrev pub float_of : ℤ → F32Bits
float_of z = record { 0 = unsigned_abs z }

abbrev pub double_of : ℤ → F64Bits
double_of z = record { 0 = unsigned_abs z }
