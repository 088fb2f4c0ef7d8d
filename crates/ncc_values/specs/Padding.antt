-- Padding to a multiple of four bytes, in all three versions.
use Rattle.std.specs.Prelude.{ℕ, ◌-◌, ◌%◌}

-- the least number that brings n to a multiple of four
abbrev pub padding_of : ℕ → ℕ
padding_of n = (4 - n % 4) % 4
