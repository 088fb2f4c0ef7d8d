-- The variables as they are drawn: where all before each of them ends, and which have a line and a colour of their own.
use Rattle.std.specs.Prelude.{ℕ, ◌+◌, ◌-◌, ◌^◌, ◌==◌, max, Bool, true, false, List, [], ◌∷◌, map, take, Option, Some, None, if◌then◌else◌}
use Rattle.ncc_schema.specs.declared.schema.Header.{Header}
use Rattle.ncc_layout.specs.declared.extent.Extent.{Extent}
use Rattle.ncc_layout.specs.Extents.{end}
use Rattle.ncc_check.specs.Notes.{extents_in}
use Rattle.ncc_places.specs.Order.{by_begin}
use Rattle.ncc_picture.specs.declared.parts.Part.{Part}

-- ---- the greatest

-- a variable with what its slab lacks to the greatest number in place of its begin, so that one with a greater slab
-- comes first, and of equal ones the first of the header
abbrev pub turned : Extent → Extent
turned e = record { begin = 2 ^ 64 - 1 - e.slab; slab = e.slab; variable = e.variable; is_record = e.is_record }

-- the 40 with the greatest slabs
abbrev pub largest : List Extent → List Extent
largest es = take 40 (by_begin (map turned es))

-- the variable with this number is among them
abbrev pub has_number : List Extent → ℕ → Bool
has_number [] n = false
has_number (e ∷ es) n = if e.variable == n then true else has_number es n

-- ---- parts

-- the number of its line, counted from 0, if it has one; so many have one before it
abbrev pub line_of : (is_large : Bool) → ℕ → Option ℕ
line_of true lines = Some lines
line_of false lines = None

abbrev pub lines_after : (is_large : Bool) → ℕ → ℕ
lines_after true lines = lines + 1
lines_after false lines = lines

-- variables in the order of their begins, each of which has those before it and what ends here before it
abbrev pub parts_of : (large : List Extent) → (past lines : ℕ) → List Extent → List Part
parts_of large past lines [] = []
parts_of large past lines (e ∷ es) =
    record { extent = e; past = past; line = line_of (has_number large e.variable) lines }
    ∷ parts_of large (max past (end e)) (lines_after (has_number large e.variable) lines) es

-- all variables of a header
abbrev pub parts_in : Header → List Part
parts_in h = parts_of (largest (extents_in h)) h.length 0 (by_begin (extents_in h))

-- ---- those without a line of their own

abbrev pub unless_line : Option ℕ → (bytes : ℕ) → ℕ
unless_line None bytes = bytes
unless_line (Some line) bytes = 0

abbrev pub bytes_without_line : Part → ℕ
bytes_without_line p = unless_line p.line p.extent.slab

abbrev pub other_bytes : List Part → ℕ
other_bytes [] = 0
other_bytes (p ∷ ps) = bytes_without_line p + other_bytes ps
