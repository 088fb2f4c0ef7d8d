-- The standard placement of a schema that is to be written
-- (The NetCDF Classic Format Specification, "The Format in Detail").
use Rattle.std.specs.Prelude.{◌≡◌, ℕ, suc, ◌+◌, ◌-◌, ◌*◌, ◌%◌, ◌^◌, ◌<◌, ◌≤◌, ltb, map, AllPairs, Option, Some, None, List, [], ◌∷◌, take, filter, sum_by, not, if◌then◌else◌}
use Rattle.std.specs.List.{AllByRecursion}
use Rattle.ncc_values.specs.declared.version.Version.{Version}
use Rattle.ncc_values.specs.declared.version.Version.TheVariants.{V1, V2, V5}
use Rattle.ncc_schema.specs.declared.schema.Dim.{Dim}
use Rattle.ncc_schema.specs.declared.schema.Var.{Var}
use Rattle.ncc_schema.specs.declared.schema.Schema.{Schema}
use Rattle.ncc_schema.specs.Schema.{Place, streaming_mark, offset_limit, is_record_var}
use Rattle.ncc_schema.specs.Names.{begin_at, header_length}
use Rattle.ncc_layout.specs.Sizes.{up, rounded, record_sum, record_size_of, room, NoneTooLarge}
use Rattle.ncc_layout.specs.declared.extent.Extent.{Extent}
use Rattle.ncc_layout.specs.Extents.{fixed_of, records_of}

-- ---- vsize

-- the greatest size that four bytes tell, in CDF-1 and CDF-2 ("Note on vsize")
abbrev pub most_vsize : ℕ
most_vsize = 2 ^ 32 - 4

-- the vsize of four bytes for each size past that ("Note on vsize")
abbrev pub past_vsize : ℕ
past_vsize = 2 ^ 32 - 1

abbrev pub short_word : (rounded : ℕ) → ℕ
short_word n = if ltb most_vsize n then past_vsize else n

-- the vsize of a variable of this rounded size
abbrev pub vsize_word : Version → (rounded : ℕ) → ℕ
vsize_word V1 n = short_word n
vsize_word V2 n = short_word n
vsize_word V5 n = n

-- the greatest size that is written
abbrev pub size_limit : Version → ℕ
size_limit V1 = most_vsize
size_limit V2 = most_vsize
size_limit V5 = room

-- ---- the placement

-- the padded slabs of the fixed variables
abbrev pub fixed_sum : List Dim → List Var → ℕ
fixed_sum dims vars = sum_by (rounded dims) (filter (λ x. not (is_record_var dims x)) vars)

-- first the fixed variables from the header on, then those of record 0, each with its padding
abbrev pub standard_begin : Schema → (number : ℕ) → Var → ℕ
standard_begin s n x =
    if is_record_var s.dims x
    then header_length s + fixed_sum s.dims s.vars + record_sum s.dims (take n s.vars)
    else header_length s + fixed_sum s.dims (take n s.vars)

abbrev pub standard_place : Schema → (number : ℕ) → Var → Place
standard_place s n x = record { vsize = vsize_word s.version (rounded s.dims x); begin = standard_begin s n x }

abbrev pub standard_from : Schema → (number : ℕ) → List Var → List Place
standard_from s n [] = []
standard_from s n (x ∷ vars) = standard_place s n x ∷ standard_from s (suc n) vars

abbrev pub standard_places : Schema → List Place
standard_places s = standard_from s 0 s.vars

-- the offsets of the begin fields in the header
abbrev pub begin_fields_from : Schema → (number : ℕ) → List Var → List ℕ
begin_fields_from s n [] = []
begin_fields_from s n (x ∷ vars) = begin_at s (standard_places s) n ∷ begin_fields_from s (suc n) vars

abbrev pub begin_fields : Schema → List ℕ
begin_fields s = begin_fields_from s 0 s.vars

-- ---- what can be written

abbrev pub file_length : Schema → (records : ℕ) → ℕ
file_length s records = header_length s + fixed_sum s.dims s.vars + records * record_size_of s

-- the sizes are such that the version can tell them, and a file can have them
pub record FitsVersion (s : Schema) (records : ℕ) : Type 0 where
  pub none_too_large : NoneTooLarge s.dims s.vars
  pub words : AllByRecursion (λ x. rounded s.dims x ≤ size_limit s.version) s.vars
  pub file : file_length s records < 2 ^ 63

-- the version can tell where each variable begins
abbrev pub OffsetsFit : Schema → Type 0
OffsetsFit s = AllByRecursion (λ p. p.begin < offset_limit s.version) (standard_places s)

-- ---- what a standard placement keeps besides the rules

-- one after another from this offset on, each with its padding
abbrev pub PackedFrom : (begin : ℕ) → List Extent → Type 0
PackedFrom begin [] = Unit {0}
PackedFrom begin (e ∷ es) = (e.begin ≡ begin) × PackedFrom (begin + up e.slab) es

-- the fixed variables one after another from the header on, and after them those of record 0
pub record ArePacked (header : ℕ) (es : List Extent) : Type 0 where
  pub fixed : PackedFrom header (fixed_of es)
  pub records : PackedFrom (header + sum_by up (map (λ e. e.slab) (fixed_of es))) (records_of es)

-- none begins before an earlier one of its kind
pub record AreInTurn (es : List Extent) : Type 0 where
  pub fixed : AllPairs (λ d e. d.begin ≤ e.begin) (fixed_of es)
  pub records : AllPairs (λ d e. d.begin ≤ e.begin) (records_of es)

abbrev pub AreAligned : List Extent → Type 0
AreAligned es = AllByRecursion (λ e. e.begin % 4 ≡ 0) es

-- ---- one more record

-- the number of records after these, where that isn't the streaming mark
abbrev pub next_count : Version → ℕ → Option ℕ
next_count v n = if ltb (n + 1) (streaming_mark v) then Some (n + 1) else None
