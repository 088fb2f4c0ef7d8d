-- What is left to read where a field comes next, after what the fields before it gave, as a grammar of fields.
use Rattle.std.specs.Prelude.{ℕ, ◌*◌, List, [], ◌∷◌, ◌++◌, length, map, zip}
use Rattle.ncc_values.specs.Values.{type_of, bytes_of}
use Rattle.ncc_values.specs.XType.{size_of as bytes_each}
use Rattle.ncc_values.specs.declared.values.Values.{Values}
use Rattle.ncc_values.specs.declared.version.Version.{Version}
use Rattle.ncc_values.specs.declared.xtype.XType.{XType}
use Rattle.ncc_schema.specs.declared.schema.Count.{Count}
use Rattle.ncc_schema.specs.declared.schema.Dim.{Dim}
use Rattle.ncc_schema.specs.declared.schema.Attr.{Attr}
use Rattle.ncc_schema.specs.declared.schema.Var.{Var}
use Rattle.ncc_schema.specs.declared.schema.Schema.{Schema}
use Rattle.ncc_header.specs.declared.partial.Partial.{Partial}
use Rattle.ncc_header.specs.declared.partial.Lists.{Lists}
use Rattle.ncc_header.specs.declared.partial.Parts.{Parts}
use Rattle.ncc_header.specs.declared.partial.Vars.{Vars}
use Rattle.ncc_header.specs.declared.partial.Begun.{Begun}
use Rattle.ncc_header.specs.declared.partial.Owner.{Owner}
use Rattle.ncc_header.specs.declared.partial.Owner.TheVariants as owners
use Rattle.ncc_header.specs.declared.partial.Named.{Named}
use Rattle.ncc_header.specs.declared.partial.Named.TheVariants as named
use Rattle.ncc_header.specs.declared.partial.Next.{Next}
use Rattle.ncc_header.specs.declared.partial.Next.TheVariants as nexts
use Rattle.ncc_header.specs.Grammar.{Grammar, done, ◌>>=◌, repeat}
use Rattle.ncc_schema.specs.Header.{nc_dimension, nc_variable}
use Rattle.ncc_schema.specs.Schema.{Place, places_of}
use Rattle.ncc_header.specs.Fields.{header, version, numrecs, list, list_nelems, name, dim, bytes, padding, dim_length, attr, attrs, nc_type, nelems, values, var, dimid, dimids, vsize, begin}

-- what a header gives
abbrev pub Given : Type 0
Given = Schema × List Place

-- ---- the variables

abbrev pub schema_of : Parts → (gatts : List Attr) → List Var → Schema
schema_of p gatts vars = record { version = p.version; count = p.count; dims = p.dims.items; gatts = gatts; vars = vars }

abbrev pub ended : Parts → (gatts : List Attr) → List (Var × Place) → Grammar Given
ended p gatts vars = done (schema_of p gatts (map (λ x. x.0) vars), map (λ x. x.1) vars)

abbrev pub var_list : Parts → (gatts : List Attr) → Grammar Given
var_list p gatts = list p.version nc_variable (λ before. var p.version p.dims.items) >>= ended p gatts

-- k more variables, and then the end
abbrev pub from_vars : Parts → List (Var × Place) → (k : ℕ) → Grammar Given
from_vars p before k = repeat (λ before. var p.version p.dims.items) before k >>= ended p p.gatts.items

abbrev pub before_of : Vars → List (Var × Place)
before_of v = zip v.vars.items (places_of v.places.items)

-- the variable that has begun, and then the rest
abbrev pub in_var : Parts → Vars → Grammar (Var × Place) → Grammar Given
in_var p v g = (g >>= λ x. repeat (λ before. var p.version p.dims.items) (before_of v ++ x ∷ []) v.left) >>= ended p p.gatts.items

abbrev pub from_begin : Version → Var → (size : ℕ) → Grammar (Var × Place)
from_begin v x size = begin v >>= λ at. done (x, record { vsize = size; begin = at })

abbrev pub from_vsize : Version → Var → Grammar (Var × Place)
from_vsize v x = vsize v >>= λ size. from_begin v x size

abbrev pub from_type : Version → (name : List ℕ) → (dims : List ℕ) → List Attr → Grammar (Var × Place)
from_type v name dims notes = nc_type v >>= λ t. from_vsize v (record { name = name; dims = dims; attrs = notes; xtype = t })

abbrev pub from_dims_of_var : Version → (name : List ℕ) → (dims : List ℕ) → Grammar (Var × Place)
from_dims_of_var v name dims = attrs v >>= λ notes. from_type v name dims notes

abbrev pub from_rank : Parts → (name : List ℕ) → Grammar (Var × Place)
from_rank p name = dimids p.version p.dims.items >>= λ dims. from_dims_of_var p.version name dims

-- k more numbers of dimensions, and then the rest of the variable
abbrev pub from_dimids : Parts → (name : List ℕ) → (before : List ℕ) → (k : ℕ) → Grammar (Var × Place)
from_dimids p name before k = repeat (dimid p.version p.dims.items) before k >>= λ dims. from_dims_of_var p.version name dims

-- the variable that has begun, its type next
abbrev pub var_of : Lists → XType → Var
var_of l t = record { name = l.var.name; dims = l.var.dims.items; attrs = l.attrs.items; xtype = t }

-- ---- attributes

abbrev pub with_attrs : Owner → Parts → Vars → Begun → List Attr → Grammar Given
with_attrs owners.File p v x notes = var_list p notes
with_attrs owners.Variable p v x notes = in_var p v (from_type p.version x.name x.dims.items notes)

-- k more attributes, and then the rest
abbrev pub from_attrs : Owner → Lists → List Attr → (k : ℕ) → Grammar Given
from_attrs o l before k = repeat (λ before. attr l.parts.version) before k >>= with_attrs o l.parts l.vars l.var

-- the attribute that has begun, and then the rest
abbrev pub in_attr : Owner → Lists → Grammar Attr → Grammar Given
in_attr o l g = (g >>= λ x. repeat (λ before. attr l.parts.version) (l.attrs.items ++ x ∷ []) l.attrs_left) >>= with_attrs o l.parts l.vars l.var

abbrev pub from_attr_padding : (name : List ℕ) → (size : ℕ) → Values → Grammar Attr
from_attr_padding name size vs = padding size >>= λ zeros. done (record { name = name; values = vs })

abbrev pub from_values : (name : List ℕ) → XType → (number : ℕ) → Grammar Attr
from_values name t k = values t k >>= λ vs. from_attr_padding name (k * bytes_each t) vs

abbrev pub from_attr_count : Version → (name : List ℕ) → XType → Grammar Attr
from_attr_count v name t = nelems v >>= λ k. from_values name t k

abbrev pub from_attr_type : Version → (name : List ℕ) → Grammar Attr
from_attr_type v name = nc_type v >>= λ t. from_attr_count v name t

-- ---- dimensions

abbrev pub with_dims : Version → Count → List Dim → Grammar Given
with_dims v c dims = attrs v >>= λ gatts. list v nc_variable (λ before. var v dims)
    >>= λ vars. done (record { version = v; count = c; dims = dims; gatts = gatts; vars = map (λ x. x.0) vars }, map (λ x. x.1) vars)

-- k more dimensions, and then the rest
abbrev pub from_dims : Parts → (k : ℕ) → Grammar Given
from_dims p k = repeat (dim p.version) p.dims.items k >>= with_dims p.version p.count

-- the dimensions so far and one more, k more, and then the rest
abbrev pub after_dim : Parts → (k : ℕ) → Dim → Grammar Given
after_dim p k x = repeat (dim p.version) (p.dims.items ++ x ∷ []) k >>= with_dims p.version p.count

abbrev pub from_count : Version → Count → Grammar Given
from_count v c = list v nc_dimension (dim v) >>= with_dims v c

abbrev pub from_version : Version → Grammar Given
from_version v = numrecs v >>= from_count v

-- the dimension that has begun, and then the rest
abbrev pub in_dim : Parts → (left : ℕ) → Grammar Dim → Grammar Given
in_dim p left g = (g >>= λ x. repeat (dim p.version) (p.dims.items ++ x ∷ []) left) >>= with_dims p.version p.count

abbrev pub from_length : Parts → (name : List ℕ) → Grammar Dim
from_length p name = dim_length p.version p.dims.items >>= λ n. done (record { name = name; length = n })

-- ---- names

abbrev pub with_name : Named → Lists → (name : List ℕ) → Grammar Given
with_name named.Dim l text = in_dim l.parts l.dims_left (from_length l.parts text)
with_name (named.Attr o) l text = in_attr o l (from_attr_type l.parts.version text)
with_name named.Var l text = in_var l.parts l.vars (from_rank l.parts text)

-- ---- what is left

abbrev pub left_of : Next → Partial → Grammar Given
left_of nexts.Magic b = header
left_of nexts.VersionByte b = version >>= from_version
left_of nexts.NumRecs b = from_version b.lists.parts.version
left_of nexts.DimsTag b = from_count b.lists.parts.version b.lists.parts.count
left_of (nexts.DimsCount t) b = (list_nelems b.lists.parts.version t >>= repeat (dim b.lists.parts.version) []) >>= with_dims b.lists.parts.version b.lists.parts.count
left_of (nexts.NameLength x) b = name b.lists.parts.version >>= with_name x b.lists
left_of (nexts.NameText x n) b = bytes n >>= λ text. padding n >>= λ zeros. with_name x b.lists text
left_of (nexts.NamePadding x) b = padding (length b.name) >>= λ zeros. with_name x b.lists b.name
left_of nexts.DimLength b = in_dim b.lists.parts b.lists.dims_left (from_length b.lists.parts b.name)
left_of (nexts.AttrsTag o) b = attrs b.lists.parts.version >>= with_attrs o b.lists.parts b.lists.vars b.lists.var
left_of (nexts.AttrsCount o t) b = (list_nelems b.lists.parts.version t >>= repeat (λ before. attr b.lists.parts.version) []) >>= with_attrs o b.lists.parts b.lists.vars b.lists.var
left_of (nexts.AttrType o) b = in_attr o b.lists (from_attr_type b.lists.parts.version b.name)
left_of (nexts.AttrCount o t) b = in_attr o b.lists (from_attr_count b.lists.parts.version b.name t)
left_of (nexts.AttrValues o k) b = in_attr o b.lists (from_values b.name (type_of b.body.values) k)
left_of (nexts.AttrPadding o n) b = in_attr o b.lists (from_attr_padding b.name n b.body.values)
left_of nexts.VarsTag b = var_list b.lists.parts b.lists.parts.gatts.items
left_of (nexts.VarsCount t) b = (list_nelems b.lists.parts.version t >>= repeat (λ before. var b.lists.parts.version b.lists.parts.dims.items) []) >>= ended b.lists.parts b.lists.parts.gatts.items
left_of nexts.DimIdsCount b = in_var b.lists.parts b.lists.vars (from_rank b.lists.parts b.lists.var.name)
left_of (nexts.DimId k) b = in_var b.lists.parts b.lists.vars ((dimid b.lists.parts.version b.lists.parts.dims.items b.lists.var.dims.items >>= λ n. repeat (dimid b.lists.parts.version b.lists.parts.dims.items) (b.lists.var.dims.items ++ n ∷ []) k) >>= λ dims. from_dims_of_var b.lists.parts.version b.lists.var.name dims)
left_of nexts.VarType b = in_var b.lists.parts b.lists.vars (from_type b.lists.parts.version b.lists.var.name b.lists.var.dims.items b.lists.attrs.items)
left_of (nexts.Vsize t) b = in_var b.lists.parts b.lists.vars (from_vsize b.lists.parts.version (var_of b.lists t))
left_of (nexts.VarBegin t size) b = in_var b.lists.parts b.lists.vars (from_begin b.lists.parts.version (var_of b.lists t) size)
left_of nexts.Whole b = done (schema_of b.lists.parts b.lists.parts.gatts.items b.lists.vars.vars.items, places_of b.lists.vars.places.items)

-- ---- where the begin fields were

abbrev pub begins_of_vars : Vars → List ℕ
begins_of_vars v = map (λ p. p.begin_at) v.places.items

abbrev pub begins_of_owner : Owner → Vars → List ℕ
begins_of_owner owners.File v = []
begins_of_owner owners.Variable v = begins_of_vars v

abbrev pub begins_of_named : Named → Vars → List ℕ
begins_of_named named.Dim v = []
begins_of_named (named.Attr o) v = begins_of_owner o v
begins_of_named named.Var v = begins_of_vars v

abbrev pub begins_of : Next → Vars → List ℕ
begins_of (nexts.NameLength x) v = begins_of_named x v
begins_of (nexts.NameText x n) v = begins_of_named x v
begins_of (nexts.NamePadding x) v = begins_of_named x v
begins_of (nexts.AttrsTag o) v = begins_of_owner o v
begins_of (nexts.AttrsCount o t) v = begins_of_owner o v
begins_of (nexts.AttrType o) v = begins_of_owner o v
begins_of (nexts.AttrCount o t) v = begins_of_owner o v
begins_of (nexts.AttrValues o k) v = begins_of_owner o v
begins_of (nexts.AttrPadding o n) v = begins_of_owner o v
begins_of nexts.DimIdsCount v = begins_of_vars v
begins_of (nexts.DimId k) v = begins_of_vars v
begins_of nexts.VarType v = begins_of_vars v
begins_of (nexts.Vsize t) v = begins_of_vars v
begins_of (nexts.VarBegin t size) v = begins_of_vars v
begins_of nexts.Whole v = begins_of_vars v
begins_of _ v = []

-- ---- the field that comes next

-- its bytes that stand where they stay: those of a name, and whole values of an attribute
abbrev pub come_of : Next → Partial → List ℕ
come_of (nexts.NameText x n) b = b.name
come_of (nexts.AttrValues o k) b = bytes_of b.body.values
come_of _ b = []

-- its bytes that have come, where these are held after those that stand
abbrev pub front_of : Next → Partial → (held : List ℕ) → List ℕ
front_of next b held = come_of next b ++ held

-- fewer bytes are held at once: none of a name, a part of a value, or a field of 8 bytes
abbrev pub part_of : Next → Partial → ℕ
part_of (nexts.NameText x n) b = 1
part_of (nexts.AttrValues o k) b = bytes_each (type_of b.body.values)
part_of _ b = 9

-- how many fields without bytes may follow one another from here
abbrev pub idle_of : Next → ℕ
idle_of (nexts.NameText x n) = 2
idle_of (nexts.NamePadding x) = 1
idle_of (nexts.AttrValues o k) = 2
idle_of (nexts.AttrPadding o n) = 1
idle_of _ = 0

-- its least offset, as far as memory may be needed: only from 12 on
abbrev pub first_at : Next → ℕ
first_at nexts.Magic = 0
first_at nexts.VersionByte = 3
first_at nexts.NumRecs = 4
first_at nexts.DimsTag = 8
first_at _ = 12
