-- Stretches of adjoining elements: one call of a store reads each.
use Rattle.std.specs.Prelude.{ℕ, ◌+◌, ◌*◌, ◌/◌, ◌==◌, if◌then◌else◌, List, [], ◌∷◌, length, take, drop, sum_by}
use Rattle.std.specs.List.{range_with_len}
use Rattle.ncc_slab.specs.Answers.{buffer_length, part_count}

-- how many of these places don't lie right after the one before it, where the first has this one before it
abbrev pub breaks : (size before : ℕ) → (places : List ℕ) → ℕ
breaks size p [] = 0
breaks size p (q ∷ qs) = (if q == p + size then 0 else 1) + breaks size q qs

-- how many stretches elements of this size at these places have
abbrev pub stretches : (size : ℕ) → (places : List ℕ) → ℕ
stretches size [] = 0
stretches size (p ∷ ps) = 1 + breaks size p ps

-- of the next part of the places that are left
abbrev pub part_stretches : (size : ℕ) → (left : List ℕ) → ℕ
part_stretches size left = stretches size (take (part_count size left) left)

-- of the part with this number, counted from 0
abbrev pub stretches_in : (size : ℕ) → (places : List ℕ) → (number : ℕ) → ℕ
stretches_in size places k = part_stretches size (drop (k * (buffer_length / size)) places)

-- of all parts; after the last there is nothing
abbrev pub all_stretches : (size : ℕ) → (places : List ℕ) → ℕ
all_stretches size places =
    sum_by (stretches_in size places) (range_with_len 0 (length places / (buffer_length / size) + 1))
