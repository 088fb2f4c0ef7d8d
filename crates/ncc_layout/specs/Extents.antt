-- Where variables lie, and how many records there are
-- (The NetCDF Classic Format Specification, "Notes on Computing File Offsets" and "Note on streaming data").
use Rattle.std.specs.Prelude.{◌≡◌, ℕ, suc, ◌+◌, ◌-◌, ◌/◌, ◌≤◌, ltb, List, [], ◌∷◌, map, Contains, Option, Some, None, min, max, filter, not, if◌then◌else◌}
use Rattle.std.specs.List.{AllByRecursion}
use Rattle.ncc_schema.specs.declared.schema.Count.{Count}
use Rattle.ncc_schema.specs.declared.schema.Count.TheVariants.{Known, Streaming}
use Rattle.ncc_schema.specs.declared.schema.Dim.{Dim}
use Rattle.ncc_schema.specs.declared.schema.Var.{Var}
use Rattle.ncc_schema.specs.declared.schema.Schema.{Schema}
use Rattle.ncc_schema.specs.Schema.{Place, is_record_var}
use Rattle.ncc_layout.specs.declared.extent.Extent.{Extent}
use Rattle.ncc_layout.specs.Sizes.{slab, record_size_of}

-- ---- extents

-- the bytes of a variable, of a record variable those of record 0
abbrev pub extent_of : List Dim → (number : ℕ) → Var → Place → Extent
extent_of dims n x p = record { begin = p.begin; slab = slab dims x; variable = n; is_record = is_record_var dims x }

abbrev pub extents_from : List Dim → (number : ℕ) → List Var → List Place → List Extent
extents_from dims n (x ∷ vars) (p ∷ places) = extent_of dims n x p ∷ extents_from dims (suc n) vars places
extents_from dims n _ _ = []

abbrev pub extents_of : Schema → List Place → List Extent
extents_of s places = extents_from s.dims 0 s.vars places

-- they are numbered in their order
abbrev pub NumberedFrom : ℕ → List Extent → Type 0
NumberedFrom n [] = Unit {0}
NumberedFrom n (e ∷ es) = (e.variable ≡ n) × NumberedFrom (suc n) es

-- the first byte after it
abbrev pub end : Extent → ℕ
end e = e.begin + e.slab

abbrev pub fixed_of : List Extent → List Extent
fixed_of es = filter (λ e. not e.is_record) es

abbrev pub records_of : List Extent → List Extent
records_of es = filter (λ e. e.is_record) es

-- ---- records

-- the slabs of a record
abbrev pub slabs_of_records : List Extent → List ℕ
slabs_of_records es = map (λ e. e.slab) (records_of es)

abbrev pub begin_sooner : Option ℕ → ℕ → ℕ
begin_sooner None n = n
begin_sooner (Some m) n = min m n

-- the least begin, where there is one
abbrev pub least_begin : List Extent → Option ℕ
least_begin [] = None
least_begin (e ∷ es) = Some (begin_sooner (least_begin es) e.begin)

-- it is the begin of one of them, and no begin is less
abbrev pub LeastBegin : List Extent → Option ℕ → Type 0
LeastBegin es None = es ≡ []
LeastBegin es (Some begin) = AllByRecursion (λ e. begin ≤ e.begin) es × Contains (map (λ e. e.begin) es) begin

abbrev pub greatest_end : List Extent → ℕ
greatest_end [] = 0
greatest_end (e ∷ es) = max (end e) (greatest_end es)

-- the records in a file of this length: as many as have a whole place for their last slab
abbrev pub streamed : (record_size length : ℕ) → List Extent → ℕ
streamed record_size length [] = 0
streamed record_size length (e ∷ es) =
    let last = greatest_end (e ∷ es) in
    if ltb length last then 0 else 1 + (length - last) / record_size

abbrev pub number_of_records : (record_size length : ℕ) → List Extent → Count → ℕ
number_of_records record_size length es (Known n) = n
number_of_records record_size length es Streaming = streamed record_size length (records_of es)

abbrev pub record_count : Schema → List Place → (length : ℕ) → ℕ
record_count s places length = number_of_records (record_size_of s) length (extents_of s places) s.count
