-- Where each element lies, and what belongs to each
-- (The NetCDF Classic Format Specification, "Notes on Computing File Offsets").
use Rattle.std.specs.Prelude.{◌≡◌, ℕ, suc, ◌+◌, ◌*◌, ◌<◌, ◌≤◌, List, [], ◌∷◌, map, length, get_or, sum_by, Option, Some, None, Contains, Bool, true, false, if◌then◌else◌}
use Rattle.std.specs.List.{AllByRecursion}
use Rattle.ncc_values.specs.XType.{size_of}
use Rattle.ncc_values.specs.declared.xtype.XType.TheVariants.{Byte}
use Rattle.ncc_schema.specs.declared.schema.Dim.{Dim}
use Rattle.ncc_schema.specs.declared.schema.Var.{Var}
use Rattle.ncc_schema.specs.declared.schema.Schema.{Schema}
use Rattle.ncc_schema.specs.Schema.{Place, is_record_var}
use Rattle.ncc_layout.specs.declared.extent.Extent.{Extent}
use Rattle.ncc_layout.specs.declared.placed_var.PlacedVar.{PlacedVar}
use Rattle.ncc_layout.specs.Sizes.{up, product, inner, record_bytes, room}
use Rattle.ncc_layout.specs.Extents.{extent_of, end, slabs_of_records, record_count, NumberedFrom}
use Rattle.ncc_layout.specs.Rules.{Rules}

-- ---- variables at their places

-- the lengths of a variable, first the number of records where it is a record variable
abbrev pub shape : List Dim → (records : ℕ) → Var → List ℕ
shape dims records x = if is_record_var dims x then records ∷ inner dims x else inner dims x

abbrev pub placed_var : List Dim → (records number : ℕ) → Var → Place → PlacedVar
placed_var dims records n x p = record { xtype = x.xtype; shape = shape dims records x; extent = extent_of dims n x p }

abbrev pub placed_from : List Dim → (records number : ℕ) → List Var → List Place → List PlacedVar
placed_from dims records n (x ∷ vars) (p ∷ places) =
    placed_var dims records n x p ∷ placed_from dims records (suc n) vars places
placed_from dims records n _ _ = []

-- with so many records
abbrev pub placed_with : Schema → List Place → (records : ℕ) → List PlacedVar
placed_with s places records = placed_from s.dims records 0 s.vars places

abbrev pub placed_vars : Schema → List Place → (length : ℕ) → List PlacedVar
placed_vars s places length = placed_with s places (record_count s places length)

-- the same over extents that were found before
abbrev pub placed_on : List Dim → (records : ℕ) → List Var → List Extent → List PlacedVar
placed_on dims records (x ∷ vars) (e ∷ es) =
    record { xtype = x.xtype; shape = shape dims records x; extent = e } ∷ placed_on dims records vars es
placed_on dims records _ _ = []

-- a variable that isn't there
abbrev pub no_var : PlacedVar
no_var = record { xtype = Byte; shape = []; extent = record { begin = 0; slab = 0; variable = 0; is_record = false } }

abbrev pub var_at : List PlacedVar → (number : ℕ) → PlacedVar
var_at vars n = get_or vars n no_var

-- a record variable has a first length
abbrev pub HasLengths : PlacedVar → Type 0
HasLengths x = (if x.extent.is_record then 1 else 0) ≤ length x.shape

abbrev pub lengthened : (records : ℕ) → Bool → List ℕ → List ℕ
lengthened records true (n ∷ ls) = records ∷ ls
lengthened records true [] = []
lengthened records false ls = ls

-- the same variable where there are so many records
abbrev pub with_records : (records : ℕ) → PlacedVar → PlacedVar
with_records records x =
    record { xtype = x.xtype; shape = lengthened records x.extent.is_record x.shape; extent = x.extent }

-- ---- places

-- the row-major number of an index list, the last index fastest
abbrev pub row_major : (lengths index : List ℕ) → ℕ
row_major (l ∷ ls) (i ∷ is) = i * product ls + row_major ls is
row_major _ _ = 0

-- how far from the variable's begin
abbrev pub offset_in : (record_size size : ℕ) → Bool → (lengths index : List ℕ) → ℕ
offset_in record_size size true (n ∷ ls) (i ∷ is) = i * record_size + row_major ls is * size
offset_in record_size size true _ _ = 0
offset_in record_size size false ls is = row_major ls is * size

abbrev pub offset_of : (record_size : ℕ) → PlacedVar → (index : List ℕ) → ℕ
offset_of record_size x index = offset_in record_size (size_of x.xtype) x.extent.is_record x.shape index

-- the first byte of an element
abbrev pub place_of : (record_size : ℕ) → PlacedVar → (index : List ℕ) → ℕ
place_of record_size x index = x.extent.begin + offset_of record_size x index

-- the index list whose last index is one further on
abbrev pub next_index : (index : List ℕ) → List ℕ
next_index [] = []
next_index (i ∷ []) = (i + 1) ∷ []
next_index (i ∷ j ∷ is) = i ∷ next_index (j ∷ is)

-- the record of an element, and its number in the slab
abbrev pub record_in : Bool → (index : List ℕ) → ℕ
record_in true [] = 0
record_in true (i ∷ is) = i
record_in false is = 0

abbrev pub record_of : PlacedVar → (index : List ℕ) → ℕ
record_of x index = record_in x.extent.is_record index

-- as many indices as lengths, each below its own
abbrev pub Inside : (lengths index : List ℕ) → Type 0
Inside [] [] = Unit {0}
Inside (l ∷ ls) (i ∷ is) = (i < l) × Inside ls is
Inside _ _ = ⊥

-- ---- elements

pub record Element (vars : List PlacedVar) : Type 0 where
  pub var : PlacedVar
  pub there : Contains vars var
  pub index : List ℕ
  pub inside : Inside var.shape index

-- a byte of the element
abbrev pub Owns : {vars : List PlacedVar} → (record_size : ℕ) → Element vars → (byte : ℕ) → Type 0
Owns record_size e byte =
    (place_of record_size e.var e.index ≤ byte) × (byte < place_of record_size e.var e.index + size_of e.var.xtype)

-- the variable and the index list are there, and this is the element's place
abbrev pub IsPlace : (record_size : ℕ) → List PlacedVar → (number : ℕ) → (index : List ℕ) → Option ℕ → Type 0
IsPlace record_size vars n index None = (n < length vars) × Inside (var_at vars n).shape index → ⊥
IsPlace record_size vars n index (Some place) =
    (n < length vars) × Inside (var_at vars n).shape index × (place ≡ place_of record_size (var_at vars n) index)

-- the element's bytes lie past the header and in the file
abbrev pub LiesInFile : (header length : ℕ) → PlacedVar → (place : ℕ) → Type 0
LiesInFile header length x place = (header ≤ place) × (place + size_of x.xtype ≤ length)

-- the element's bytes lie in the slab of its variable in its record
pub record LiesInSlab (record_size : ℕ) (x : PlacedVar) (index : List ℕ) : Type 0 where
  pub begins : x.extent.begin + record_of x index * record_size ≤ place_of record_size x index
  pub ends : place_of record_size x index + size_of x.xtype ≤ end x.extent + record_of x index * record_size

-- ---- what holds of variables that are placed

-- the lengths are those of a slab, after the number of records
abbrev pub IsShaped : (records size slab : ℕ) → Bool → (lengths : List ℕ) → Type 0
IsShaped records size slab true (n ∷ ls) = (n ≡ records) × (slab ≡ product ls * size)
IsShaped records size slab true [] = ⊥
IsShaped records size slab false ls = slab ≡ product ls * size

abbrev pub HasShape : (records : ℕ) → PlacedVar → Type 0
HasShape records x = IsShaped records (size_of x.xtype) x.extent.slab x.extent.is_record x.shape

-- variables in their order that keep all rules
pub record AreLaid (header length record_size records : ℕ) (vars : List PlacedVar) : Type 0 where
  pub shaped : AllByRecursion (HasShape records) vars
  pub numbered : NumberedFrom 0 (map (λ x. x.extent) vars)
  pub rules : Rules header length record_size records (map (λ x. x.extent) vars)

-- no size is too large, and the size of a record is that of its variables
pub record AreSized (record_size : ℕ) (vars : List PlacedVar) : Type 0 where
  pub each : AllByRecursion (λ x. up x.extent.slab ≤ room) vars
  pub together : sum_by up (slabs_of_records (map (λ x. x.extent) vars)) ≤ room
  pub record_size_is : record_size ≡ record_bytes (slabs_of_records (map (λ x. x.extent) vars))

-- every element has bytes of its own, past the header and inside the file
pub record Own (header length record_size : ℕ) (vars : List PlacedVar) : Type 0 where
  pub inside : (e : Element vars) (byte : ℕ) → Owns record_size e byte → (header ≤ byte) × (byte < length)
  pub apart : (d e : Element vars) (byte : ℕ) → Owns record_size d byte → Owns record_size e byte
      → (d.var ≡ e.var) × (d.index ≡ e.index)
