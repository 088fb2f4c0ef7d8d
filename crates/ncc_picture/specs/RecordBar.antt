-- The bar of one record, the first, with each record variable's part in it.
use Rattle.std.specs.Prelude.{ℕ, ◌-◌, max, List, [], ◌++◌, Option, Some, None, if◌then◌else◌, codes}
use Rattle.std.specs.List.{flat_map}
use Rattle.ncc_schema.specs.declared.schema.Schema.{Schema}
use Rattle.ncc_places.specs.declared.ends.Records.{Records}
use Rattle.ncc_places.specs.Words.{record_line}
use Rattle.ncc_picture.specs.declared.parts.Part.{Part}
use Rattle.ncc_picture.specs.Marks.{bare, rect, text_at}
use Rattle.ncc_picture.specs.Spans.{place, span}
use Rattle.ncc_picture.specs.Words.{counted_words, part_words, record_label}
use Rattle.ncc_picture.specs.Variables.{own_bytes, shared_bytes}

-- how many bytes the bar has: those of a record with its padding, or more where a variable's part ends after them
abbrev pub record_far : Records → (slabs_end : ℕ) → ℕ
record_far r slabs_end = max r.size (slabs_end - r.begin)

abbrev pub own_in_record : Schema → (far from : ℕ) → Part → List ℕ
own_in_record s far from p = if p.extent.is_record then own_bytes far 100 from p (part_words s p) else []

abbrev pub shared_in_record : Schema → (far from : ℕ) → Part → List ℕ
shared_in_record s far from p = if p.extent.is_record then shared_bytes far 100 from p (part_words s p) else []

-- what is shared is drawn over all variables
abbrev pub record_parts : Schema → (far from : ℕ) → List Part → List ℕ
record_parts s far from parts = flat_map (own_in_record s far from) parts ++ flat_map (shared_in_record s far from) parts

-- how far it goes, and all of it in white
abbrev pub record_ground : (far : ℕ) → Records → List ℕ
record_ground far r =
    text_at 0 92 (counted_words record_label far) ++ span far 100 (codes "gap") 0 far (record_line r)

-- a line where the record ends, with its padding
abbrev pub record_end : (far size : ℕ) → List ℕ
record_end far size = rect (codes "cut") (place far size) 100 1 36 ++ bare

abbrev pub record_bar_of : Schema → (far : ℕ) → Records → List Part → List ℕ
record_bar_of s far r parts = record_ground far r ++ (record_parts s far r.begin parts ++ record_end far r.size)

-- the bar, where there is a record variable
abbrev pub record_bar : Schema → (slabs_end : ℕ) → Option Records → List Part → List ℕ
record_bar s slabs_end None parts = []
record_bar s slabs_end (Some r) parts = record_bar_of s (record_far r slabs_end) r parts
