-- Zeros past a front.
use Rattle.std.specs.Prelude.{ℕ, List, ◌++◌, take, drop, replicate}

-- the next n bytes from a place on
abbrev pub zero_past : (front : List ℕ) → (place n : ℕ) → List ℕ
zero_past front place n = take n (drop place front ++ replicate n 0)
