-- Where the records of a file lie, and where all that its header speaks of ends. A variable ends as the layout rules
-- have it: at the first byte after its own ones, without padding.
use Rattle.std.specs.Prelude.{ℕ, ◌+◌, ◌-◌, ◌*◌, ◌==◌, max, List, Option, Some, None, if◌then◌else◌}
use Rattle.ncc_schema.specs.declared.schema.Count.{Count}
use Rattle.ncc_schema.specs.declared.schema.Count.TheVariants.{Known, Streaming}
use Rattle.ncc_schema.specs.declared.schema.Header.{Header}
use Rattle.ncc_schema.specs.Schema.{places_of}
use Rattle.ncc_layout.specs.declared.extent.Extent.{Extent}
use Rattle.ncc_layout.specs.Extents.{fixed_of, greatest_end, least_begin, record_count, records_of}
use Rattle.ncc_layout.specs.Sizes.{record_size_of}
use Rattle.ncc_check.specs.Notes.{extents_in}
use Rattle.ncc_places.specs.declared.ends.Records.{Records}

-- where the last of so many records ends, of which the first has its last slab up to here; without records that is
-- where the first would begin
abbrev pub last_end : (size count begin slabs_end : ℕ) → ℕ
last_end size count begin slabs_end = if count == 0 then begin else slabs_end + (count - 1) * size

-- so many records, if there is a record variable: they begin with the first of them
abbrev pub records_from : (size count : ℕ) → List Extent → (begin : Option ℕ) → Option Records
records_from size count es None = None
records_from size count es (Some begin) =
    Some (record { count = count; begin = begin; size = size; end = last_end size count begin (greatest_end es) })

abbrev pub records_with : (size count : ℕ) → List Extent → Option Records
records_with size count es = records_from size count es (least_begin es)

-- the records of a file of this length, as many as a check counts
abbrev pub records_in : Header → (file : ℕ) → Option Records
records_in h file =
    records_with (record_size_of h.schema) (record_count h.schema (places_of h.places) file) (records_of (extents_in h))

-- the number that is known, or another
abbrev pub known_or : Count → (other : ℕ) → ℕ
known_or (Known n) other = n
known_or Streaming other = other

-- where they end, if there is one
abbrev pub end_of_records : Option Records → ℕ
end_of_records None = 0
end_of_records (Some r) = if r.count == 0 then 0 else r.end

-- where all ends that a header speaks of: itself, the fixed variables, and the records
abbrev pub end_of_all : (header : ℕ) → List Extent → Option Records → ℕ
end_of_all header es r = max (max header (greatest_end (fixed_of es))) (end_of_records r)
