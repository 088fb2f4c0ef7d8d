-- The numbers by which a layout rule fails for a variable, each in bytes.
use Rattle.std.specs.Prelude.{◌≡◌, ℕ, zero, suc, Contains, ◌+◌, ◌*◌, ◌<◌, ◌==◌, ltb, length, get_or, List, [], ◌∷◌, Option, Some, None, Bool, true, false, not, ◌&&◌, ◌||◌, if◌then◌else◌}
use Rattle.ncc_schema.specs.declared.schema.Count.{Count}
use Rattle.ncc_schema.specs.declared.schema.Count.TheVariants.{Known, Streaming}
use Rattle.ncc_schema.specs.declared.schema.Header.{Header}
use Rattle.ncc_layout.specs.declared.extent.Extent.{Extent}
use Rattle.ncc_layout.specs.declared.fault.LayoutFaultKind.{LayoutFaultKind}
use Rattle.ncc_layout.specs.declared.fault.LayoutFaultKind.TheVariants as kinds
use Rattle.ncc_schema.specs.Schema.{places_of}
use Rattle.ncc_layout.specs.Extents.{end, least_begin, record_count, records_of}
use Rattle.ncc_layout.specs.Rules.Overlap.{Apart}
use Rattle.ncc_layout.specs.Rules.FixedAfterRecords.{NotFixedAfterRecords}
use Rattle.ncc_layout.specs.Rules.RecordWindow.{InRecordWindow}
use Rattle.ncc_layout.specs.Rules.InHeader.{NotInHeader}
use Rattle.ncc_layout.specs.Rules.Truncated.{NotTruncated}
use Rattle.ncc_layout.specs.Rules.Overlap.{Before}
use Rattle.ncc_layout.specs.Sizes.{record_size_of}
use Rattle.ncc_check.specs.Notes.{extents_in}
use Rattle.ncc_parts.specs.declared.broken.Broken.{Broken}
use Rattle.ncc_parts.specs.declared.broken.Broken.TheVariants.{InHeader, Overlap, RecordWindow, FixedAfterRecords, Truncated}

abbrev pub no_extent : Extent
no_extent = record { begin = 0; slab = 0; variable = 0; is_record = false }

-- the extent of the variable of this number
abbrev pub extent_at : Header → (number : ℕ) → Extent
extent_at h n = get_or (extents_in h) n no_extent

-- where what ends here in record 0 ends in the last record, where the header tells that there is one
abbrev pub in_last_record : (record_size : ℕ) → Count → (past : ℕ) → Option ℕ
in_last_record size (Known zero) past = None
in_last_record size (Known (suc n)) past = Some (past + n * size)
in_last_record size Streaming past = None

-- where a variable ends: a record variable in the last record
abbrev pub last_end : (record_size : ℕ) → Count → Extent → Option ℕ
last_end size count e = if e.is_record then in_last_record size count (end e) else Some (end e)

-- ---- the numbers

abbrev pub broken_if : Bool → Broken → Option Broken
broken_if true b = Some b
broken_if false b = None

abbrev pub in_header : Header → (number : ℕ) → Option Broken
in_header h n =
    broken_if (ltb (extent_at h n).begin h.length) (InHeader (extent_at h n).begin h.length)

-- of the same kind, it comes before, by begin and then by number, and ends past the begin of the later one
abbrev pub overlaps : (earlier later : Extent) → Bool
overlaps d e =
    (ltb d.begin e.begin || ((d.begin == e.begin) && ltb d.variable e.variable))
    && ((if d.is_record then e.is_record else not e.is_record) && ltb e.begin (end d))

-- the first of them that does so, with its number
abbrev pub first_overlap : (later : Extent) → (number : ℕ) → List Extent → Option Broken
first_overlap e n [] = None
first_overlap e n (d ∷ es) = if overlaps d e then Some (Overlap e.begin n (end d)) else first_overlap e (suc n) es

abbrev pub overlap : Header → (number : ℕ) → Option Broken
overlap h n = first_overlap (extent_at h n) 0 (extents_in h)

abbrev pub record_window_by : (record_size : ℕ) → Extent → (records : Option ℕ) → Option Broken
record_window_by size e None = None
record_window_by size e (Some b) = broken_if (e.is_record && ltb (b + size) (end e)) (RecordWindow (end e) (b + size))

abbrev pub record_window : Header → (number : ℕ) → Option Broken
record_window h n =
    record_window_by (record_size_of h.schema) (extent_at h n) (least_begin (records_of (extents_in h)))

abbrev pub fixed_after_records_by : Extent → (records : Option ℕ) → Option Broken
fixed_after_records_by e None = None
fixed_after_records_by e (Some b) = broken_if (not e.is_record && ltb b (end e)) (FixedAfterRecords (end e) b)

abbrev pub fixed_after_records : Header → (number : ℕ) → Option Broken
fixed_after_records h n = fixed_after_records_by (extent_at h n) (least_begin (records_of (extents_in h)))

abbrev pub truncated_by : (file : ℕ) → (last : Option ℕ) → Option Broken
truncated_by file None = None
truncated_by file (Some past) = broken_if (ltb file past) (Truncated past file)

abbrev pub truncated : Header → (file number : ℕ) → Option Broken
truncated h file n = truncated_by file (last_end (record_size_of h.schema) h.schema.count (extent_at h n))

-- the numbers by which a rule fails for a variable in a file of this length, where it does; a variable that is too large
-- has none
abbrev pub broken_by : Header → (file : ℕ) → LayoutFaultKind → (number : ℕ) → Option Broken
broken_by h file kinds.TooLarge n = None
broken_by h file kinds.InHeader n = in_header h n
broken_by h file kinds.Overlap n = overlap h n
broken_by h file kinds.RecordWindow n = record_window h n
broken_by h file kinds.FixedAfterRecords n = fixed_after_records h n
broken_by h file kinds.Truncated n = truncated h file n

-- ---- what they say

-- the rule that they are of
abbrev pub kind_of : Broken → LayoutFaultKind
kind_of (InHeader begin header) = kinds.InHeader
kind_of (Overlap begin other past) = kinds.Overlap
kind_of (RecordWindow past window) = kinds.RecordWindow
kind_of (FixedAfterRecords past records) = kinds.FixedAfterRecords
kind_of (Truncated past file) = kinds.Truncated

-- the layout rule of this kind, for a variable in a file of this length; a variable that is too large has none here
abbrev pub Keeps : Header → (file : ℕ) → LayoutFaultKind → (number : ℕ) → Type 0
Keeps h file kinds.TooLarge n = Unit {0}
Keeps h file kinds.InHeader n = NotInHeader h.length (extent_at h n)
Keeps h file kinds.Overlap n = (d : Extent) → Contains (extents_in h) d → Before d (extent_at h n)
    → d.is_record ≡ (extent_at h n).is_record → Apart d (extent_at h n)
Keeps h file kinds.RecordWindow n = InRecordWindow (record_size_of h.schema) (extents_in h) (extent_at h n)
Keeps h file kinds.FixedAfterRecords n = NotFixedAfterRecords (extents_in h) (extent_at h n)
Keeps h file kinds.Truncated n =
    NotTruncated file (record_size_of h.schema) (record_count h.schema (places_of h.places) file) (extent_at h n)

-- the numbers are those of this variable, in a file of this length, and the first reaches past the second, or not to it
abbrev pub Breaks : Header → (file number : ℕ) → Broken → Type 0
Breaks h file n (InHeader begin header) =
    (begin ≡ (extent_at h n).begin) × (header ≡ h.length) × (begin < header)
Breaks h file n (Overlap begin other past) =
    (begin ≡ (extent_at h n).begin) × (other < length h.schema.vars) × (past ≡ end (extent_at h other))
    × ((extent_at h other).is_record ≡ (extent_at h n).is_record) × Before (extent_at h other) (extent_at h n)
    × (begin < past)
Breaks h file n (RecordWindow past window) =
    ((extent_at h n).is_record ≡ true) × (past ≡ end (extent_at h n))
    × ((b : ℕ) × (least_begin (records_of (extents_in h)) ≡ Some b) × (window ≡ b + record_size_of h.schema))
    × (window < past)
Breaks h file n (FixedAfterRecords past records) =
    ((extent_at h n).is_record ≡ false) × (past ≡ end (extent_at h n))
    × (least_begin (records_of (extents_in h)) ≡ Some records) × (records < past)
Breaks h file n (Truncated past length_of_file) =
    (last_end (record_size_of h.schema) h.schema.count (extent_at h n) ≡ Some past) × (length_of_file ≡ file)
    × (length_of_file < past)
