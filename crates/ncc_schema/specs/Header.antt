-- What bytes spell a schema and a placement as a header: the grammar, one definition a rule, and the canonical spelling.
use Rattle.std.specs.Prelude.{◌≡◌, ℕ, zero, suc, ◌*◌, ◌⊎◌, ◌+◌, List, [], ◌∷◌, ◌++◌, length, take, drop, replicate, zip}
use Rattle.std.specs.List.{flat_map}
use Rattle.ncc_values.specs.Numbers.{IsBytes, big_endian}
use Rattle.ncc_values.specs.Padding.{padding_of}
use Rattle.ncc_values.specs.Values.{type_of, count_of, bytes_of}
use Rattle.ncc_values.specs.Version.{byte_of, count_width_of, offset_width_of}
use Rattle.ncc_values.specs.XType.{code_of, size_of}
use Rattle.ncc_values.specs.declared.version.Version.{Version}
use Rattle.ncc_values.specs.declared.xtype.XType.{XType}
use Rattle.ncc_schema.specs.declared.schema.Count.{Count}
use Rattle.ncc_schema.specs.declared.schema.Count.TheVariants.{Known, Streaming}
use Rattle.ncc_schema.specs.declared.schema.Dim.{Dim}
use Rattle.ncc_schema.specs.declared.schema.Attr.{Attr}
use Rattle.ncc_schema.specs.declared.schema.Var.{Var}
use Rattle.ncc_schema.specs.declared.schema.Schema.{Schema}
use Rattle.ncc_schema.specs.Schema.{streaming_mark, Place, Legal, IsTyped}

-- ---- joining spellings

abbrev pub Language : Type 1
Language = List ℕ → Type 0

-- p, and then q
infixr 12 ◌⨾◌
abbrev pub ◌⨾◌ : Language → Language → Language
(p ⨾ q) b = (x : List ℕ) × (y : List ℕ) × (b ≡ x ++ y) × p x × q y

-- these bytes
abbrev pub exactly : List ℕ → Language
exactly bytes b = b ≡ bytes

-- so many bytes, whichever they are
abbrev pub any_bytes : ℕ → Language
any_bytes n b = (length b ≡ n) × IsBytes b

abbrev pub each : {A : Type 0} → (A → Language) → List A → Language
each item [] = exactly []
each item (a ∷ items) = item a ⨾ each item items

-- ---- the grammar

-- the tags of lists
abbrev pub nc_dimension : ℕ
nc_dimension = 10

abbrev pub nc_variable : ℕ
nc_variable = 11

abbrev pub nc_attribute : ℕ
nc_attribute = 12

abbrev pub number : (width : ℕ) → ℕ → Language
number width n = exactly (big_endian width n)

-- NON_NEG: a number of items or of records, a length, a dimension's number or a vsize
abbrev pub non_neg : Version → ℕ → Language
non_neg v n = number (count_width_of v) n

-- padding = 0 to 3 bytes
abbrev pub padding : (length : ℕ) → Language
padding n = any_bytes (padding_of n)

-- name = nelems namestring padding
abbrev pub name : Version → List ℕ → Language
name v n = non_neg v (length n) ⨾ exactly n ⨾ padding (length n)

-- its own tag; for an empty list also zero
abbrev pub list_tag : (tag : ℕ) → (length : ℕ) → Language
list_tag tag n b = (b ≡ big_endian 4 tag) ⊎ ((n ≡ 0) × (b ≡ big_endian 4 0))

abbrev pub list_head : Version → (tag : ℕ) → (length : ℕ) → Language
list_head v tag n = list_tag tag n ⨾ non_neg v n

-- list = ABSENT | tag nelems [item ...]
abbrev pub list : {A : Type 0} → Version → (tag : ℕ) → (A → Language) → List A → Language
list v tag item items = list_head v tag (length items) ⨾ each item items

-- dim = name dim_length
abbrev pub dim : Version → Dim → Language
dim v d = name v d.name ⨾ non_neg v d.length

-- nc_type
abbrev pub nc_type : XType → Language
nc_type t = number 4 (code_of t)

-- attr = name nc_type nelems [values ...] padding
abbrev pub attr : Version → Attr → Language
attr v a =
    name v a.name ⨾ nc_type (type_of a.values) ⨾ non_neg v (count_of a.values)
    ⨾ exactly (bytes_of a.values) ⨾ padding (count_of a.values * size_of (type_of a.values))

-- nelems [dimid ...]
abbrev pub dimids : Version → List ℕ → Language
dimids v ids = non_neg v (length ids) ⨾ each (non_neg v) ids

-- var = name nelems [dimid ...] vatt_list nc_type vsize begin
abbrev pub var : Version → Var × Place → Language
var v x =
    name v x.0.name ⨾ dimids v x.0.dims ⨾ list v nc_attribute (attr v) x.0.attrs
    ⨾ nc_type x.0.xtype ⨾ non_neg v x.1.vsize ⨾ number (offset_width_of v) x.1.begin

abbrev pub numrecs_word : Version → Count → ℕ
numrecs_word v (Known n) = n
numrecs_word v Streaming = streaming_mark v

-- header = magic numrecs dim_list gatt_list var_list
abbrev pub header : Schema → List Place → Language
header s places =
    exactly (0x43 ∷ 0x44 ∷ 0x46 ∷ []) ⨾ number 1 (byte_of s.version) ⨾ non_neg s.version (numrecs_word s.version s.count)
    ⨾ list s.version nc_dimension (dim s.version) s.dims ⨾ list s.version nc_attribute (attr s.version) s.gatts
    ⨾ list s.version nc_variable (var s.version) (zip s.vars places)

-- all of b is a header of s, whose variables are at these places
pub record IsHeader (s : Schema) (places : List Place) (b : List ℕ) : Type 0 where
  pub legal : Legal s places
  pub typed : IsTyped s
  pub spelled : header s places b

-- bytes whose count field, after the first four, is written again
abbrev pub with_count_field : Version → (records : ℕ) → List ℕ → List ℕ
with_count_field v n b = take 4 b ++ big_endian (count_width_of v) n ++ drop (4 + count_width_of v) b

-- ---- the canonical spelling: zero padding, and zero tags for empty lists

abbrev pub zeros : ℕ → List ℕ
zeros n = replicate n 0

abbrev pub canon_name : Version → List ℕ → List ℕ
canon_name v n = big_endian (count_width_of v) (length n) ++ (n ++ zeros (padding_of (length n)))

abbrev pub canon_head : Version → (tag : ℕ) → (length : ℕ) → List ℕ
canon_head v tag zero = big_endian 4 0 ++ big_endian (count_width_of v) 0
canon_head v tag (suc n) = big_endian 4 tag ++ big_endian (count_width_of v) (suc n)

abbrev pub canon_list : {A : Type 0} → Version → (tag : ℕ) → (A → List ℕ) → List A → List ℕ
canon_list v tag item items = canon_head v tag (length items) ++ flat_map item items

abbrev pub canon_dim : Version → Dim → List ℕ
canon_dim v d = canon_name v d.name ++ big_endian (count_width_of v) d.length

abbrev pub canon_attr : Version → Attr → List ℕ
canon_attr v a =
    canon_name v a.name ++ (big_endian 4 (code_of (type_of a.values)) ++ (big_endian (count_width_of v) (count_of a.values)
    ++ (bytes_of a.values ++ zeros (padding_of (count_of a.values * size_of (type_of a.values))))))

abbrev pub canon_dimids : Version → List ℕ → List ℕ
canon_dimids v ids = big_endian (count_width_of v) (length ids) ++ flat_map (big_endian (count_width_of v)) ids

abbrev pub canon_var : Version → Var × Place → List ℕ
canon_var v x =
    canon_name v x.0.name ++ (canon_dimids v x.0.dims ++ (canon_list v nc_attribute (canon_attr v) x.0.attrs
    ++ (big_endian 4 (code_of x.0.xtype) ++ (big_endian (count_width_of v) x.1.vsize ++ big_endian (offset_width_of v) x.1.begin))))

abbrev pub canon : Schema → List Place → List ℕ
canon s places =
    (0x43 ∷ 0x44 ∷ 0x46 ∷ []) ++ (big_endian 1 (byte_of s.version) ++ (big_endian (count_width_of s.version) (numrecs_word s.version s.count)
    ++ (canon_list s.version nc_dimension (canon_dim s.version) s.dims ++ (canon_list s.version nc_attribute (canon_attr s.version) s.gatts ++ canon_list s.version nc_variable (canon_var s.version) (zip s.vars places)))))
