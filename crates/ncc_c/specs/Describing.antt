-- A schema by rows whose names and values stand in a text: the rows of an index, and others that a caller makes.
use Rattle.std.specs.Prelude.{◌≡◌, ◌≢◌, ◌+◌, ◌-◌, ◌*◌, ◌≤◌, ℕ, None, List, [], ◌∷◌, length, take, drop, map}
use Rattle.std.specs.List.{AllByRecursion}
use Rattle.std.specs.Option.{unwrap_or}
use Rattle.ncc_values.specs.Values.{values_of}
use Rattle.ncc_values.specs.XType.{size_of, type_of_code}
use Rattle.ncc_values.specs.declared.version.Version.{Version}
use Rattle.ncc_values.specs.declared.version.Version.TheVariants.{V5}
use Rattle.ncc_values.specs.declared.xtype.XType.{XType}
use Rattle.ncc_values.specs.declared.xtype.XType.TheVariants.{Byte}
use Rattle.ncc_schema.specs.declared.schema.Attr.{Attr}
use Rattle.ncc_schema.specs.declared.schema.Count.TheVariants.{Known}
use Rattle.ncc_schema.specs.declared.schema.Dim.{Dim}
use Rattle.ncc_schema.specs.declared.schema.Schema.{Schema}
use Rattle.ncc_schema.specs.declared.schema.Var.{Var}
use Rattle.ncc_c.specs.declared.rows.AttrRow.{AttrRow}
use Rattle.ncc_c.specs.declared.rows.DimRow.{DimRow}
use Rattle.ncc_c.specs.declared.rows.VarRow.{VarRow}

-- ---- one item

-- the bytes that stand there
abbrev pub slice : (text : List ℕ) → (at count : ℕ) → List ℕ
slice text at count = take count (drop at text)

-- the type with this code; Byte where there is none
abbrev pub type_by : (code : ℕ) → XType
type_by n = unwrap_or (type_of_code V5 n) Byte

-- how many bytes the values of an attribute have
abbrev pub values_size : AttrRow → ℕ
values_size r = r.count * size_of (type_by r.xtype)

abbrev pub dim_by : (text : List ℕ) → DimRow → Dim
dim_by text r = record { name = slice text r.name_at r.name_length; length = r.length }

abbrev pub attr_by : (text : List ℕ) → AttrRow → Attr
attr_by text r = record {
  name = slice text r.name_at r.name_length;
  values = values_of (type_by r.xtype) (slice text r.values_at (values_size r));
}

abbrev pub var_by : (text : List ℕ) → VarRow → List AttrRow → (ids : List ℕ) → Var
var_by text r attrs ids = record {
  name = slice text r.name_at r.name_length;
  dims = ids;
  attrs = map (attr_by text) attrs;
  xtype = type_by r.xtype;
}

-- ---- all items

-- how many attributes, and how many dimensions, these variables have together
abbrev pub attrs_by : List VarRow → ℕ
attrs_by [] = 0
attrs_by (r ∷ rows) = r.attrs + attrs_by rows

abbrev pub ids_by : List VarRow → ℕ
ids_by [] = 0
ids_by (r ∷ rows) = r.rank + ids_by rows

-- each variable takes the next attributes and the next numbers of dimensions
abbrev pub vars_by : (text : List ℕ) → List AttrRow → (ids : List ℕ) → List VarRow → List Var
vars_by text attrs ids [] = []
vars_by text attrs ids (r ∷ rows) =
    var_by text r (take r.attrs attrs) (take r.rank ids)
    ∷ vars_by text (drop r.attrs attrs) (drop r.rank ids) rows

-- the attributes that no variable takes stand first, and are those of the file
abbrev pub globals_by : List AttrRow → List VarRow → ℕ
globals_by attrs vars = length attrs - attrs_by vars

abbrev pub schema_by : Version → (text : List ℕ) → List DimRow → List AttrRow → List VarRow → (ids : List ℕ) → Schema
schema_by v text dims attrs vars ids = record {
  version = v;
  count = Known 0;
  dims = map (dim_by text) dims;
  gatts = map (attr_by text) (take (globals_by attrs vars) attrs);
  vars = vars_by text (drop (globals_by attrs vars) attrs) ids vars;
}

-- ---- rows that can be read

-- so many bytes stand there
abbrev pub IsIn : (text : List ℕ) → (at count : ℕ) → Type 0
IsIn text at count = at + count ≤ length text

abbrev pub IsType : (code : ℕ) → Type 0
IsType n = type_of_code V5 n ≢ None

abbrev pub DimFits : (text : List ℕ) → DimRow → Type 0
DimFits text r = IsIn text r.name_at r.name_length

pub record AttrFits (text : List ℕ) (r : AttrRow) : Type 0 where
  pub name : IsIn text r.name_at r.name_length
  pub typed : IsType r.xtype
  pub values : IsIn text r.values_at (values_size r)

pub record VarFits (text : List ℕ) (r : VarRow) : Type 0 where
  pub name : IsIn text r.name_at r.name_length
  pub typed : IsType r.xtype

-- all that the rows point to is there, and the rows are as many as the variables say
pub record RowsFit (text : List ℕ) (dims : List DimRow) (attrs : List AttrRow) (vars : List VarRow) (ids : List ℕ) : Type 0 where
  pub dims_fit : AllByRecursion (DimFits text) dims
  pub attrs_fit : AllByRecursion (AttrFits text) attrs
  pub vars_fit : AllByRecursion (VarFits text) vars
  pub enough : attrs_by vars ≤ length attrs
  pub all_ids : ids_by vars ≡ length ids
