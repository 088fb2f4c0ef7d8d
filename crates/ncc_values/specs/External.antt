-- Elements of the external types as numbers and as bytes.
use Rattle.std.specs.Prelude.{ℕ, ◌+◌, ◌-◌, ◌/◌, ◌^◌, ℤ, pos, negsuc, ◌-ℤ◌, ◌≤ℤ◌, nat_lt, if◌then◌else◌, List}
use Rattle.ncc_values.specs.Numbers.{big_endian, number_of}
use Rattle.ncc_values.specs.XType.{size_of, is_signed}
use Rattle.ncc_values.specs.declared.xtype.XType.{XType}

-- two's complement in w bytes: the upper half of their numbers stands for the negative ones
abbrev pub signed_of : (w n : ℕ) → ℤ
signed_of w n = if nat_lt n (256 ^ w / 2) then pos n else pos n -ℤ pos (256 ^ w)

-- the number that stands for z there
abbrev pub unsigned_of : (w : ℕ) → ℤ → ℕ
unsigned_of w (pos n) = n
unsigned_of w (negsuc n) = 256 ^ w - (n + 1)

-- the number that the bytes of one element spell, the most significant first
abbrev pub number_in : XType → List ℕ → ℤ
number_in t bytes = if is_signed t then signed_of (size_of t) (number_of bytes) else pos (number_of bytes)

-- the bytes of one element, by its number
abbrev pub bytes_in : XType → ℤ → List ℕ
bytes_in t z = big_endian (size_of t) (unsigned_of (size_of t) z)

-- the smallest and the largest number of the type
abbrev pub smallest_of : XType → ℤ
smallest_of t = if is_signed t then pos 0 -ℤ pos (256 ^ size_of t / 2) else pos 0

abbrev pub largest_of : XType → ℤ
largest_of t = if is_signed t then pos (256 ^ size_of t / 2 - 1) else pos (256 ^ size_of t - 1)

-- a number of the type
abbrev pub IsNumberOf : XType → ℤ → Type 0
IsNumberOf t z = (smallest_of t ≤ℤ z) × (z ≤ℤ largest_of t)
