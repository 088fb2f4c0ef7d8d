-- What the rows of an index say, and where the names and values that they point to stand.
use Rattle.std.specs.Prelude.{◌≡◌, ℕ, ◌+◌, ◌<◌, ◌==◌, ◌⊎◌, if◌then◌else◌, get_or, map, List, [], ◌∷◌, ◌++◌, length, take, Result, Ok, Err, IfOk}
use Rattle.std.specs.List.{flat_map}
use Rattle.ncc_values.specs.Values.{type_of, count_of, bytes_of}
use Rattle.ncc_values.specs.Version.{count_width_of}
use Rattle.ncc_values.specs.XType.{code_of}
use Rattle.ncc_values.specs.declared.version.Version.{Version}
use Rattle.ncc_schema.specs.declared.schema.Attr.{Attr}
use Rattle.ncc_schema.specs.declared.schema.Dim.{Dim}
use Rattle.ncc_schema.specs.declared.schema.Schema.{Schema}
use Rattle.ncc_schema.specs.declared.schema.Var.{Var}
use Rattle.ncc_schema.specs.Header.{canon_attr, canon_dim, canon_name}
use Rattle.ncc_schema.specs.Names.{StandsAt, attrs_in, canon_unplaced, gatts_at, head_size, list_size, vars_at}
use Rattle.ncc_layout.specs.declared.placed_var.PlacedVar.{PlacedVar}
use Rattle.ncc_layout.specs.Placed.{vars_of}
use Rattle.ncc_front.specs.declared.judging.Found.{Found}
use Rattle.ncc_front.specs.declared.judging.FrontRefusal.{FrontRefusal}
use Rattle.ncc_front.specs.Judging.{FindsOf, RefusesFront}
use Rattle.ncc_c.specs.declared.index.Indexed.{Indexed}
use Rattle.ncc_c.specs.declared.outcome.Outcome.{Outcome}
use Rattle.ncc_c.specs.declared.rows.AttrRow.{AttrRow}
use Rattle.ncc_c.specs.declared.rows.DimRow.{DimRow}
use Rattle.ncc_c.specs.declared.rows.VarRow.{VarRow}
use Rattle.ncc_c.specs.Outcomes.{no_room, of_refusal, passes}
use Rattle.ncc_c.specs.Selecting.{AreVars}

-- ---- one item

abbrev pub dim_row : Version → (at : ℕ) → Dim → DimRow
dim_row v at d = record { name_at = at + count_width_of v; name_length = length d.name; length = d.length }

abbrev pub attr_row : Version → (at : ℕ) → Attr → AttrRow
attr_row v at a = record {
  name_at = at + count_width_of v;
  name_length = length a.name;
  xtype = code_of (type_of a.values);
  count = count_of a.values;
  values_at = at + length (canon_name v a.name) + (4 + count_width_of v);
}

abbrev pub var_row : Version → (at : ℕ) → Var → PlacedVar → VarRow
var_row v at x p = record {
  name_at = at + count_width_of v;
  name_length = length x.name;
  xtype = code_of x.xtype;
  begin = p.extent.begin;
  slab = p.extent.slab;
  rank = length x.dims;
  attrs = length x.attrs;
  is_record = if p.extent.is_record then 1 else 0;
}

-- ---- lists of items, of which the first stands at an offset

abbrev pub dim_rows : Version → (at : ℕ) → List Dim → List DimRow
dim_rows v at [] = []
dim_rows v at (d ∷ dims) = dim_row v at d ∷ dim_rows v (at + length (canon_dim v d)) dims

abbrev pub attr_rows : Version → (at : ℕ) → List Attr → List AttrRow
attr_rows v at [] = []
attr_rows v at (a ∷ attrs) = attr_row v at a ∷ attr_rows v (at + length (canon_attr v a)) attrs

abbrev pub var_rows : Version → (at : ℕ) → List Var → List PlacedVar → List VarRow
var_rows v at (x ∷ vars) (p ∷ placed) = var_row v at x p ∷ var_rows v (at + length (canon_unplaced v x)) vars placed
var_rows v at _ _ = []

-- the attributes of each variable in turn
abbrev pub attrs_of_vars : Version → (at : ℕ) → List Var → List AttrRow
attrs_of_vars v at [] = []
attrs_of_vars v at (x ∷ vars) =
    attr_rows v (at + attrs_in v x) x.attrs ++ attrs_of_vars v (at + length (canon_unplaced v x)) vars

-- how many attributes, and how many dimensions, the variables have together
abbrev pub attr_count : List Var → ℕ
attr_count [] = 0
attr_count (x ∷ vars) = length x.attrs + attr_count vars

abbrev pub id_count : List Var → ℕ
id_count [] = 0
id_count (x ∷ vars) = length x.dims + id_count vars

-- the numbers of the dimensions of each variable in turn
abbrev pub ids_of_vars : List Var → List ℕ
ids_of_vars vars = flat_map (λ x. x.dims) vars

-- ---- all rows of a header

abbrev pub all_dim_rows : Schema → List DimRow
all_dim_rows s = dim_rows s.version (head_size s.version + list_size s.version) s.dims

abbrev pub all_attr_rows : Schema → List AttrRow
all_attr_rows s =
    attr_rows s.version (gatts_at s + list_size s.version) s.gatts
    ++ attrs_of_vars s.version (vars_at s + list_size s.version) s.vars

abbrev pub all_var_rows : Schema → List PlacedVar → List VarRow
all_var_rows s placed = var_rows s.version (vars_at s + list_size s.version) s.vars placed

-- ---- shapes

-- the length of the dimension with this number: that of its row, or the number of records where it is 0
abbrev pub length_by : List DimRow → (records id : ℕ) → ℕ
length_by rows records id =
    if get_or (map (λ r. r.length) rows) id 0 == 0 then records else get_or (map (λ r. r.length) rows) id 0

-- the lengths that a caller finds for a variable over these dimensions
abbrev pub shape_by : List DimRow → (records : ℕ) → (ids : List ℕ) → List ℕ
shape_by rows records ids = map (length_by rows records) ids

-- they are those of each variable at its place
abbrev pub ShapesBy : List DimRow → (records : ℕ) → List Var → List PlacedVar → Type 0
ShapesBy rows records [] [] = Unit {0}
ShapesBy rows records (x ∷ vars) (p ∷ placed) =
    (shape_by rows records x.dims ≡ p.shape) × ShapesBy rows records vars placed
ShapesBy rows records _ _ = ⊥

-- ---- what stands where

-- the names of dimensions stand where their rows say
abbrev pub DimsStand : (bytes : List ℕ) → List Dim → List DimRow → Type 0
DimsStand bytes [] [] = Unit {0}
DimsStand bytes (d ∷ dims) (r ∷ rows) = StandsAt bytes d.name r.name_at × DimsStand bytes dims rows
DimsStand bytes _ _ = ⊥

-- and those of attributes, and their values
abbrev pub AttrsStand : (bytes : List ℕ) → List Attr → List AttrRow → Type 0
AttrsStand bytes [] [] = Unit {0}
AttrsStand bytes (a ∷ attrs) (r ∷ rows) =
    StandsAt bytes a.name r.name_at × StandsAt bytes (bytes_of a.values) r.values_at × AttrsStand bytes attrs rows
AttrsStand bytes _ _ = ⊥

abbrev pub VarsStand : (bytes : List ℕ) → List Var → List VarRow → Type 0
VarsStand bytes [] [] = Unit {0}
VarsStand bytes (x ∷ vars) (r ∷ rows) = StandsAt bytes x.name r.name_at × VarsStand bytes vars rows
VarsStand bytes _ _ = ⊥

-- the attributes of the file, and then those of each variable
abbrev pub all_attrs : Schema → List Attr
all_attrs s = s.gatts ++ flat_map (λ x. x.attrs) s.vars

-- all names and values of a header stand where the rows say
pub record AllStand (bytes : List ℕ) (s : Schema) (placed : List PlacedVar) : Type 0 where
  pub dims : DimsStand bytes s.dims (all_dim_rows s)
  pub attrs : AttrsStand bytes (all_attrs s) (all_attr_rows s)
  pub vars : VarsStand bytes s.vars (all_var_rows s placed)

-- ---- an index

-- how many rows there are
pub record HasCounts (s : Schema) (x : Indexed) : Type 0 where
  pub dims : x.dims ≡ length s.dims
  pub attrs : x.attrs ≡ length s.gatts + attr_count s.vars
  pub vars : x.vars ≡ length s.vars
  pub ids : x.ids ≡ id_count s.vars

-- an array is shorter than the count of its rows
abbrev pub IsShort : Schema → (dims attrs vars ids : ℕ) → Type 0
IsShort s dims attrs vars ids =
    (dims < length s.dims) ⊎ ((attrs < length s.gatts + attr_count s.vars) ⊎ ((vars < length s.vars) ⊎ (ids < id_count s.vars)))

-- the arrays begin with all rows
pub record HasRows (s : Schema) (placed : List PlacedVar) (dims : List DimRow) (attrs : List AttrRow) (vars : List VarRow) (ids : List ℕ) : Type 0 where
  pub dims_are : take (length s.dims) dims ≡ all_dim_rows s
  pub attrs_are : take (length s.gatts + attr_count s.vars) attrs ≡ all_attr_rows s
  pub vars_are : take (length s.vars) vars ≡ all_var_rows s placed
  pub ids_are : take (id_count s.vars) ids ≡ ids_of_vars s.vars

-- all rows, or there is no room for them
abbrev pub PutsIndex : Schema → List PlacedVar → List DimRow → List AttrRow → List VarRow → List ℕ → Outcome → Type 0
PutsIndex s placed dims attrs vars ids o =
    ((o ≡ passes) × HasRows s placed dims attrs vars ids)
    ⊎ ((o ≡ no_room) × IsShort s (length dims) (length attrs) (length vars) (length ids))

abbrev pub no_rows : Outcome → Indexed
no_rows o = record { outcome = o; dims = 0; attrs = 0; vars = 0; ids = 0 }

-- what was found is told
abbrev pub IsIndexed : Result Found FrontRefusal → List DimRow → List AttrRow → List VarRow → List ℕ → Indexed → Type 0
IsIndexed (Ok f) dims attrs vars ids x =
    HasCounts f.header.schema x × PutsIndex f.header.schema (vars_of f.placed) dims attrs vars ids x.outcome
IsIndexed (Err e) dims attrs vars ids x = x ≡ no_rows (of_refusal e)

-- what is found of each file of this length that begins with the front
abbrev pub Examines : (front : List ℕ) (file limit : ℕ) → Result Found FrontRefusal → Type 0
Examines front file limit (Ok f) = FindsOf front file limit f.header f.placed
Examines front file limit (Err e) = RefusesFront front file limit e

-- The rows are those of what is found, what they point to stands in the front, and each row of a variable is that of the
-- variable at its place.
pub record TellsIndex (front : List ℕ) (file limit : ℕ) (dims : List DimRow) (attrs : List AttrRow) (vars : List VarRow) (ids : List ℕ) (x : Indexed) : Type 0 where
  pub answer : Result Found FrontRefusal
  pub examines : Examines front file limit answer
  pub told : IsIndexed answer dims attrs vars ids x
  pub stand : IfOk answer (λ f. AllStand front f.header.schema (vars_of f.placed))
  pub vars_are : IfOk answer (λ f. AreVars (all_var_rows f.header.schema (vars_of f.placed)) (vars_of f.placed))
