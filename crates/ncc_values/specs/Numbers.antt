-- Numbers as bytes, the most significant first.
use Rattle.std.specs.Prelude.{ℕ, zero, suc, ◌+◌, ◌*◌, ◌/◌, ◌%◌, ◌<◌, List, [], ◌∷◌}
use Rattle.std.specs.List.{AllByRecursion}

-- each is a byte
abbrev pub IsBytes : List ℕ → Type 0
IsBytes bytes = AllByRecursion (λ b. b < 256) bytes

-- the last w bytes of n, and then rest
abbrev pub big_endian_onto : (w n : ℕ) → List ℕ → List ℕ
big_endian_onto zero n rest = rest
big_endian_onto (suc w) n rest = big_endian_onto w (n / 256) (n % 256 ∷ rest)

-- the w bytes of n
abbrev pub big_endian : (w n : ℕ) → List ℕ
big_endian w n = big_endian_onto w n []

abbrev pub number_onto : ℕ → List ℕ → ℕ
number_onto n [] = n
number_onto n (b ∷ bytes) = number_onto (n * 256 + b) bytes

-- the number whose bytes these are
abbrev pub number_of : List ℕ → ℕ
number_of bytes = number_onto 0 bytes
