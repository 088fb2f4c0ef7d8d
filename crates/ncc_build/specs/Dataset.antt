-- A dataset: a schema, and a value for each element. The order in which its values are written.
use Rattle.std.specs.Prelude.{◌≡◌, ℕ, suc, List, [], ◌∷◌, ◌++◌, length, filter, not}
use Rattle.std.specs.List.{AllByRecursion, AllZip, flat_map, range_with_len}
use Rattle.ncc_values.specs.Values.{type_of, count_of, bytes_of, AreInRange}
use Rattle.ncc_values.specs.declared.values.Values.{Values}
use Rattle.ncc_values.specs.declared.version.Version.{Version}
use Rattle.ncc_schema.specs.declared.schema.Dim.{Dim}
use Rattle.ncc_schema.specs.declared.schema.Var.{Var}
use Rattle.ncc_schema.specs.declared.schema.Schema.{Schema}
use Rattle.ncc_schema.specs.Schema.{Sound, IsTyped, is_record_var}
use Rattle.ncc_layout.specs.Sizes.{product, inner, record_vars}
use Rattle.ncc_layout.specs.Plans.{IsKnown, known}

-- ---- slabs

-- the elements of a fixed variable, or those of a record variable in one record
pub record Slab : Type 0 where
  pub var : Var
  -- the variable's number
  pub number : ℕ
  -- the record's number; 0 for a fixed variable
  pub in_record : ℕ

-- how many elements a slab of the variable has
abbrev pub elements : List Dim → Var → ℕ
elements dims x = product (inner dims x)

abbrev pub fixed_vars : List Dim → List Var → List Var
fixed_vars dims vars = filter (λ x. not (is_record_var dims x)) vars

-- a slab of each variable
abbrev pub slabs_from : (in_record number : ℕ) → List Var → List Slab
slabs_from r n [] = []
slabs_from r n (x ∷ vars) = record { var = x; number = n; in_record = r } ∷ slabs_from r (suc n) vars

abbrev pub fixed_slabs : Schema → List Slab
fixed_slabs s = filter (λ b. not (is_record_var s.dims b.var)) (slabs_from 0 0 s.vars)

-- the slabs of one record
abbrev pub record_slabs : Schema → (in_record : ℕ) → List Slab
record_slabs s r = filter (λ b. is_record_var s.dims b.var) (slabs_from r 0 s.vars)

-- writing order: the fixed variables as in the header, then record by record, in each the record variables as in
-- the header
abbrev pub slabs_of : Schema → List Slab
slabs_of s = fixed_slabs s ++ flat_map (record_slabs s) (range_with_len 0 (known s.count))

-- ---- datasets

pub record Dataset : Type 0 where
  pub schema : Schema
  -- a slab for each fixed variable, row-major
  pub fixed : List Values
  -- for each record a slab for each record variable
  pub records : List (List Values)

-- as many values as the slab has elements, of the variable's type
pub record IsSlabOf (dims : List Dim) (x : Var) (values : Values) : Type 0 where
  pub xtype : type_of values ≡ x.xtype
  pub number : count_of values ≡ elements dims x
  pub range : AreInRange values

-- a slab for each of these variables
abbrev pub AreSlabsOf : List Dim → List Var → List Values → Type 0
AreSlabsOf dims vars values = AllZip (IsSlabOf dims) vars values

pub record IsDataset (d : Dataset) : Type 0 where
  pub sound : Sound d.schema
  pub typed : IsTyped d.schema
  pub counted : IsKnown d.schema.count
  pub fixed : AreSlabsOf d.schema.dims (fixed_vars d.schema.dims d.schema.vars) d.fixed
  pub records_number : length d.records ≡ known d.schema.count
  pub records : AllByRecursion (AreSlabsOf d.schema.dims (record_vars d.schema.dims d.schema.vars)) d.records

-- its slabs in writing order
abbrev pub in_order : Dataset → List Values
in_order d = d.fixed ++ flat_map (λ values. values) d.records

-- the bytes of all its values in writing order, without padding
abbrev pub data_of : Dataset → List ℕ
data_of d = flat_map bytes_of (in_order d)

-- ---- another version

abbrev pub with_version : Schema → Version → Schema
with_version s v = record { version = v; count = s.count; dims = s.dims; gatts = s.gatts; vars = s.vars }

-- the same dataset in another version
abbrev pub as_version : Dataset → Version → Dataset
as_version d v = record { schema = with_version d.schema v; fixed = d.fixed; records = d.records }
