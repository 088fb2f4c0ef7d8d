-- Places at even distances.
use Rattle.std.specs.Prelude.{ℕ, ◌+◌, ◌*◌, List, map}
use Rattle.std.specs.List.{range_with_len}

-- so many places from this one on, each so many bytes after the one before it
abbrev pub places_apart : (place step count : ℕ) → List ℕ
places_apart place step count = map (λ (i : ℕ). place + i * step) (range_with_len 0 count)
