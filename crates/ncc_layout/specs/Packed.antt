-- Where one more record goes.
use Rattle.std.specs.Prelude.{ℕ, ◌+◌, ◌*◌, ◌≤◌, Option, Some, None}
use Rattle.ncc_layout.specs.declared.placed_file.Placed.{Placed}
use Rattle.ncc_layout.specs.Extents.{least_begin, records_of}
use Rattle.ncc_layout.specs.Placed.{extents_of_file, file_length_of, record_size_of_file, records_of_file}
use Rattle.ncc_layout.specs.Standard.{PackedFrom}

abbrev pub begin_or_zero : Option ℕ → ℕ
begin_or_zero (Some begin) = begin
begin_or_zero None = 0

-- where the records begin
abbrev pub records_at : Placed → ℕ
records_at p = begin_or_zero (least_begin (records_of (extents_of_file p)))

-- where a record begins
abbrev pub record_at : Placed → (number : ℕ) → ℕ
record_at p n = records_at p + n * record_size_of_file p

-- the record variables are packed: in their order one after another, each with its padding, and no more than three
-- bytes are missing before the next record
pub record IsPacked (p : Placed) : Type 0 where
  pub in_turn : PackedFrom (records_at p) (records_of (extents_of_file p))
  pub reaches : record_at p (records_of_file p) ≤ file_length_of p + 3
