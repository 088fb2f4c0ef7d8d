-- The header as a sequence of fields, each with what it is judged for.
use Rattle.std.specs.Prelude.{ℕ, ◌*◌, List, [], length, map, Option, Some, None, Bool, true, false, ltb, is_some, not, ◌==◌, ◌&&◌, ◌||◌, if◌then◌else◌, unwrap_or}
use Rattle.ncc_values.specs.Numbers.{number_of}
use Rattle.ncc_values.specs.Padding.{padding_of}
use Rattle.ncc_values.specs.Values.{values_of}
use Rattle.ncc_values.specs.Version.{version_of, count_width_of, offset_width_of}
use Rattle.ncc_values.specs.XType.{size_of, type_of_code}
use Rattle.ncc_values.specs.declared.values.Values.{Values}
use Rattle.ncc_values.specs.declared.version.Version.{Version}
use Rattle.ncc_values.specs.declared.version.Version.TheVariants.{V1}
use Rattle.ncc_values.specs.declared.xtype.XType.{XType}
use Rattle.ncc_values.specs.declared.xtype.XType.TheVariants.{Byte}
use Rattle.ncc_header.specs.declared.fault.FaultKind.{FaultKind}
use Rattle.ncc_header.specs.declared.fault.FaultKind.TheVariants.{BadMagic, BadVersion, NegativeCount, BadTag, BadType, TwoRecordDims, BadDimId, RecordDimNotFirst, NegativeOffset}
use Rattle.ncc_header.specs.declared.fault.Wrong.{Wrong}
use Rattle.ncc_schema.specs.declared.schema.Count.{Count}
use Rattle.ncc_schema.specs.declared.schema.Count.TheVariants.{Known, Streaming}
use Rattle.ncc_schema.specs.declared.schema.Dim.{Dim}
use Rattle.ncc_schema.specs.declared.schema.Attr.{Attr}
use Rattle.ncc_schema.specs.declared.schema.Var.{Var}
use Rattle.ncc_schema.specs.declared.schema.Schema.{Schema}
use Rattle.ncc_header.specs.Grammar.{Label, Plain, Padding, CountOfTagged, Begin, Grammar, done, field, ◌>>=◌, ◌into◌, repeat}
use Rattle.ncc_schema.specs.Header.{nc_dimension, nc_variable, nc_attribute}
use Rattle.ncc_schema.specs.Schema.{count_limit, length_limit, offset_limit, streaming_mark, Place, record_dims, is_record}

-- ---- judgements

-- wrong for this reason, told at the field, where the test fails
abbrev pub unless : Bool → FaultKind → Option Wrong
unless true kind = None
unless false kind = Some (record { back = 0; kind = kind })

-- a tag that is found wrong once the number of items after it is read, 4 bytes further on
abbrev pub at_tag_if : Bool → FaultKind → Option Wrong
at_tag_if true kind = Some (record { back = 4; kind = kind })
at_tag_if false kind = None

-- the first that is wrong
abbrev pub first : Option Wrong → Option Wrong → Option Wrong
first None w = w
first (Some u) w = Some u

abbrev pub magic_wrong : ℕ → Option Wrong
magic_wrong n = unless (n == 0x434446) BadMagic

abbrev pub version_wrong : ℕ → Option Wrong
version_wrong n = unless (is_some (version_of n)) BadVersion

-- nelems
abbrev pub nelems_wrong : Version → ℕ → Option Wrong
nelems_wrong v n = unless (ltb n (count_limit v)) NegativeCount

abbrev pub tag_wrong : (own : ℕ) → ℕ → Option Wrong
tag_wrong own t = unless ((t == 0) || (t == own)) BadTag

-- nelems of a list whose tag was t
abbrev pub list_nelems_wrong : Version → (t : ℕ) → ℕ → Option Wrong
list_nelems_wrong v t n = first (nelems_wrong v n) (at_tag_if ((t == 0) && not (n == 0)) BadTag)

abbrev pub dim_length_wrong : Version → (before : List Dim) → ℕ → Option Wrong
dim_length_wrong v before n = first (unless (ltb n (length_limit v)) NegativeCount) (unless (not ((n == 0) && ltb 0 (record_dims before))) TwoRecordDims)

abbrev pub nc_type_wrong : Version → ℕ → Option Wrong
nc_type_wrong v n = unless (is_some (type_of_code v n)) BadType

-- a dimension's number, after the variable's numbers before it
abbrev pub dimid_wrong : List Dim → (before : List ℕ) → ℕ → Option Wrong
dimid_wrong dims before n = first (unless (ltb n (length dims)) BadDimId) (unless (not (is_record dims n && ltb 0 (length before))) RecordDimNotFirst)

abbrev pub begin_wrong : Version → ℕ → Option Wrong
begin_wrong v n = unless (ltb n (offset_limit v)) NegativeOffset

-- ---- single fields

abbrev pub number_field : Label → (width : ℕ) → (ℕ → Option Wrong) → Grammar ℕ
number_field label width wrong = field label width (λ b. wrong (number_of b)) (λ b. done (number_of b))

abbrev pub number : (width : ℕ) → (ℕ → Option Wrong) → Grammar ℕ
number width wrong = number_field Plain width wrong

abbrev pub bytes : ℕ → Grammar (List ℕ)
bytes n = field Plain n (λ b. None) (λ b. done b)

abbrev pub padding : (length : ℕ) → Grammar (Unit {0})
padding n = field Padding (padding_of n) (λ b. None) (λ b. done tt)

-- ---- the grammar

-- nelems
abbrev pub nelems : Version → Grammar ℕ
nelems v = number (count_width_of v) (nelems_wrong v)

-- name = nelems namestring padding
abbrev pub name : Version → Grammar (List ℕ)
name v = do
  n ← nelems v
  text ← bytes n
  zeros ← padding n
  done text

abbrev pub label_of_count : (t : ℕ) → Label
label_of_count t = if t == 0 then Plain else CountOfTagged

abbrev pub list_nelems : Version → (t : ℕ) → Grammar ℕ
list_nelems v t = number_field (label_of_count t) (count_width_of v) (list_nelems_wrong v t)

abbrev pub list_tag : (own : ℕ) → Grammar ℕ
list_tag own = number 4 (tag_wrong own)

abbrev pub list_head : Version → (own : ℕ) → Grammar ℕ
list_head v own = do
  t ← list_tag own
  list_nelems v t

-- list = ABSENT | tag nelems [item ...]
abbrev pub list : {A : Type 0} → Version → (own : ℕ) → (List A → Grammar A) → Grammar (List A)
list v own item = do
  n ← list_head v own
  repeat item [] n

abbrev pub dim_length : Version → (before : List Dim) → Grammar ℕ
dim_length v before = number (count_width_of v) (dim_length_wrong v before)

-- dim = name dim_length
abbrev pub dim : Version → (before : List Dim) → Grammar Dim
dim v before = do
  text ← name v
  n ← dim_length v before
  done (record { name = text; length = n })

-- nc_type
abbrev pub nc_type : Version → Grammar XType
nc_type v = number 4 (nc_type_wrong v) into λ n. unwrap_or (type_of_code v n) Byte

-- [values ...]
abbrev pub values : XType → (number : ℕ) → Grammar Values
values t k = field Plain (k * size_of t) (λ b. None) (λ b. done (values_of t b))

-- attr = name nc_type nelems [values ...] padding
abbrev pub attr : Version → Grammar Attr
attr v = do
  text ← name v
  t ← nc_type v
  k ← nelems v
  vs ← values t k
  zeros ← padding (k * size_of t)
  done (record { name = text; values = vs })

abbrev pub attrs : Version → Grammar (List Attr)
attrs v = list v nc_attribute (λ before. attr v)

abbrev pub dimid : Version → List Dim → (before : List ℕ) → Grammar ℕ
dimid v dims before = number (count_width_of v) (dimid_wrong dims before)

-- nelems [dimid ...]
abbrev pub dimids : Version → List Dim → Grammar (List ℕ)
dimids v dims = do
  n ← nelems v
  repeat (dimid v dims) [] n

abbrev pub vsize : Version → Grammar ℕ
vsize v = number (count_width_of v) (λ n. None)

abbrev pub begin : Version → Grammar ℕ
begin v = number_field Begin (offset_width_of v) (begin_wrong v)

-- var = name nelems [dimid ...] vatt_list nc_type vsize begin
abbrev pub var : Version → List Dim → Grammar (Var × Place)
var v dims = do
  text ← name v
  ids ← dimids v dims
  notes ← attrs v
  t ← nc_type v
  size ← vsize v
  at ← begin v
  done (record { name = text; dims = ids; attrs = notes; xtype = t }, record { vsize = size; begin = at })

-- magic = 'C' 'D' 'F' VERSION
abbrev pub magic : Grammar ℕ
magic = number 3 magic_wrong

abbrev pub version : Grammar Version
version = number 1 version_wrong into λ n. unwrap_or (version_of n) V1

abbrev pub numrecs_of : Version → ℕ → Count
numrecs_of v n = if n == streaming_mark v then Streaming else Known n

-- numrecs
abbrev pub numrecs : Version → Grammar Count
numrecs v = number (count_width_of v) (λ n. None) into numrecs_of v

-- header = magic numrecs dim_list gatt_list var_list
abbrev pub header : Grammar (Schema × List Place)
header = do
  letters ← magic
  v ← version
  c ← numrecs v
  dims ← list v nc_dimension (dim v)
  gatts ← attrs v
  vars ← list v nc_variable (λ before. var v dims)
  done (record { version = v; count = c; dims = dims; gatts = gatts; vars = map (λ x. x.0) vars }, map (λ x. x.1) vars)
