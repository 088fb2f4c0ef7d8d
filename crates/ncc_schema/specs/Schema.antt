-- Limits of a version, and legal schemas and placements.
use Rattle.std.specs.Prelude.{◌≡◌, ℕ, suc, ◌-◌, ◌^◌, ◌<◌, ◌≤◌, List, [], ◌∷◌, length, map, get_or, Some, Bool, false, ◌==◌, if◌then◌else◌}
use Rattle.std.specs.List.{AllByRecursion}
use Rattle.ncc_values.specs.Numbers.{IsBytes}
use Rattle.ncc_values.specs.Values.{type_of, count_of, AreInRange}
use Rattle.ncc_values.specs.Version.{count_width_of}
use Rattle.ncc_values.specs.XType.{code_of, type_of_code}
use Rattle.ncc_values.specs.declared.version.Version.{Version}
use Rattle.ncc_values.specs.declared.version.Version.TheVariants.{V1, V2, V5}
use Rattle.ncc_values.specs.declared.xtype.XType.{XType}
use Rattle.ncc_schema.specs.declared.schema.Count.{Count}
use Rattle.ncc_schema.specs.declared.schema.Count.TheVariants.{Known, Streaming}
use Rattle.ncc_schema.specs.declared.schema.Dim.{Dim}
use Rattle.ncc_schema.specs.declared.schema.Attr.{Attr}
use Rattle.ncc_schema.specs.declared.schema.Var.{Var}
use Rattle.ncc_schema.specs.declared.schema.VarPlace.{VarPlace}
use Rattle.ncc_schema.specs.declared.schema.Schema.{Schema}
use Rattle.ncc_schema.specs.declared.schema.Header.{Header}

-- ---- limits

-- what a number of items stays below: its top bit is clear
abbrev pub count_limit : Version → ℕ
count_limit V1 = 2 ^ 31
count_limit V2 = 2 ^ 31
count_limit V5 = 2 ^ 63

-- what a dimension's length stays below: only CDF-5 has a sign bit
abbrev pub length_limit : Version → ℕ
length_limit V1 = 2 ^ 32
length_limit V2 = 2 ^ 32
length_limit V5 = 2 ^ 63

-- what the offset of a variable stays below: its top bit is clear
abbrev pub offset_limit : Version → ℕ
offset_limit V1 = 2 ^ 31
offset_limit V2 = 2 ^ 63
offset_limit V5 = 2 ^ 63

-- all bits one: the count of a file that is still written
abbrev pub streaming_mark : Version → ℕ
streaming_mark V1 = 2 ^ 32 - 1
streaming_mark V2 = 2 ^ 32 - 1
streaming_mark V5 = 2 ^ 64 - 1

-- ---- the number of records

-- the same schema with another count of records
abbrev pub with_count : Schema → ℕ → Schema
with_count s n = record { version = s.version; count = Known n; dims = s.dims; gatts = s.gatts; vars = s.vars }

-- the same header of a file, but for the count of records
abbrev pub header_with_count : Header → ℕ → Header
header_with_count h n = record { schema = with_count h.schema n; places = h.places; length = h.length; marks = h.marks }

-- ---- placements

-- what the header writes of a variable's place
pub record Place : Type 0 where
  pub vsize : ℕ
  pub begin : ℕ

abbrev pub place_of : VarPlace → Place
place_of p = record { vsize = p.vsize; begin = p.begin }

abbrev pub places_of : List VarPlace → List Place
places_of places = map place_of places

-- ---- the record dimension

-- how many dimensions have length 0
abbrev pub record_dims : List Dim → ℕ
record_dims [] = 0
record_dims (d ∷ dims) = if d.length == 0 then suc (record_dims dims) else record_dims dims

abbrev pub lengths : List Dim → List ℕ
lengths dims = map (λ d. d.length) dims

-- is this dimension, by its number, the record dimension
abbrev pub is_record : List Dim → ℕ → Bool
is_record dims n = get_or (lengths dims) n 1 == 0

-- the first of these dimensions is the record dimension
abbrev pub starts_with_record : List Dim → (numbers : List ℕ) → Bool
starts_with_record dims [] = false
starts_with_record dims (n ∷ ns) = is_record dims n

-- a variable is a record variable exactly if its first dimension is the record dimension
abbrev pub is_record_var : List Dim → Var → Bool
is_record_var dims x = starts_with_record dims x.dims

-- ---- legal schemas

abbrev pub LegalName : Version → List ℕ → Type 0
LegalName v name = length name < count_limit v

pub record LegalDim (v : Version) (d : Dim) : Type 0 where
  pub name : LegalName v d.name
  pub long : d.length < length_limit v

-- the version has a code for it
abbrev pub IsTypeOf : Version → XType → Type 0
IsTypeOf v t = type_of_code v (code_of t) ≡ Some t

pub record LegalAttr (v : Version) (a : Attr) : Type 0 where
  pub name : LegalName v a.name
  pub xtype : IsTypeOf v (type_of a.values)
  pub number : count_of a.values < count_limit v

-- the number of a dimension, other than the record dimension
abbrev pub IsFixed : List Dim → ℕ → Type 0
IsFixed dims n = (n < length dims) × (is_record dims n ≡ false)

-- each is the number of a dimension, and the record dimension stands only first
abbrev pub LegalDims : List Dim → List ℕ → Type 0
LegalDims dims [] = Unit {0}
LegalDims dims (n ∷ ns) = (n < length dims) × AllByRecursion (IsFixed dims) ns

pub record LegalVar (v : Version) (dims : List Dim) (x : Var) : Type 0 where
  pub name : LegalName v x.name
  pub rank : length x.dims < count_limit v
  pub dimids : LegalDims dims x.dims
  pub attrs_number : length x.attrs < count_limit v
  pub attrs : AllByRecursion (LegalAttr v) x.attrs
  pub xtype : IsTypeOf v x.xtype

abbrev pub LegalCount : Version → Count → Type 0
LegalCount v (Known n) = n < streaming_mark v
LegalCount v Streaming = Unit {0}

-- a schema that a header can hold, whatever its placement
pub record Sound (s : Schema) : Type 0 where
  pub count : LegalCount s.version s.count
  pub dims_number : length s.dims < count_limit s.version
  pub dims : AllByRecursion (LegalDim s.version) s.dims
  pub one_record_dim : record_dims s.dims ≤ 1
  pub gatts_number : length s.gatts < count_limit s.version
  pub gatts : AllByRecursion (LegalAttr s.version) s.gatts
  pub vars_number : length s.vars < count_limit s.version
  pub vars : AllByRecursion (LegalVar s.version s.dims) s.vars

pub record LegalPlace (v : Version) (p : Place) : Type 0 where
  pub vsize : p.vsize < 256 ^ count_width_of v
  pub begin : p.begin < offset_limit v

pub record Legal (s : Schema) (places : List Place) : Type 0 where
  pub sound : Sound s
  pub number : length places ≡ length s.vars
  pub placed : AllByRecursion (LegalPlace s.version) places

-- ---- ranges

pub record IsTypedAttr (a : Attr) : Type 0 where
  pub name : IsBytes a.name
  pub values : AreInRange a.values

pub record IsTypedVar (x : Var) : Type 0 where
  pub name : IsBytes x.name
  pub attrs : AllByRecursion IsTypedAttr x.attrs

-- names are of bytes, and values in the range of their type, as in each schema that a program holds
pub record IsTyped (s : Schema) : Type 0 where
  pub dims : AllByRecursion (λ d. IsBytes d.name) s.dims
  pub gatts : AllByRecursion IsTypedAttr s.gatts
  pub vars : AllByRecursion IsTypedVar s.vars
