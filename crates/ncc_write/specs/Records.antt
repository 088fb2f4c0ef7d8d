-- One record: a slab for each record variable, and its bytes.
use Rattle.std.specs.Prelude.{◌≡◌, ℕ, suc, ◌+◌, ◌==◌, ◌&&◌, Bool, List, [], ◌∷◌, ◌++◌, length, map, zip, Option, Some, None, if◌then◌else◌}
use Rattle.std.specs.List.{flat_map}
use Rattle.ncc_values.specs.Values.{type_of, count_of, values_of, bytes_of}
use Rattle.ncc_values.specs.declared.values.Values.{Values}
use Rattle.ncc_schema.specs.declared.schema.Dim.{Dim}
use Rattle.ncc_schema.specs.declared.schema.Schema.{Schema}
use Rattle.ncc_schema.specs.declared.schema.Var.{Var}
use Rattle.ncc_schema.specs.Schema.{Sound, with_count}
use Rattle.ncc_layout.specs.Placed.{record_size_of_file, vars_of}
use Rattle.ncc_layout.specs.Plans.{known}
use Rattle.ncc_layout.specs.Sizes.{record_vars, record_size_of, slab}
use Rattle.ncc_layout.specs.declared.placed_file.Placed.{Placed}
use Rattle.ncc_build.specs.Dataset.{AreSlabsOf, Dataset, elements}
use Rattle.ncc_build.specs.File.{padding_in, padding_bytes}
use Rattle.ncc_build.specs.Fill.{fills, same_type}

-- ---- its slabs

-- a slab for each record variable, in header order
abbrev pub IsRecord : Schema → (slabs : List Values) → Type 0
IsRecord s slabs = AreSlabsOf s.dims (record_vars s.dims s.vars) slabs

-- the values are of the variable's type, and as many as its slab has elements
abbrev pub fits_slab : List Dim → Var → Values → Bool
fits_slab dims x values = same_type (type_of values) x.xtype && (count_of values == elements dims x)

-- the number of the first variable whose slab is missing or doesn't fit; where there are more slabs, how many
-- variables there are
abbrev pub wrong_from : List Dim → (number : ℕ) → List Var → List Values → Option ℕ
wrong_from dims k [] [] = None
wrong_from dims k [] (v ∷ slabs) = Some k
wrong_from dims k (x ∷ vars) [] = Some k
wrong_from dims k (x ∷ vars) (v ∷ slabs) = if fits_slab dims x v then wrong_from dims (suc k) vars slabs else Some k

-- the number of the first record variable for which the slabs don't fit
abbrev pub wrong_at : Schema → (slabs : List Values) → Option ℕ
wrong_at s slabs = wrong_from s.dims 0 (record_vars s.dims s.vars) slabs

-- as many fill values as the slab has elements
abbrev pub fill_slab : List Dim → Var → Values
fill_slab dims x = values_of x.xtype (fills (elements dims x) x)

-- a record of fill values
abbrev pub fill_values : Schema → List Values
fill_values s = map (fill_slab s.dims) (record_vars s.dims s.vars)

-- ---- its bytes

-- the bytes of a slab, and its padding
abbrev pub with_padding : Schema → Var × Values → List ℕ
with_padding s b = bytes_of b.1 ++ padding_bytes s b.0

-- how many bytes that are
abbrev pub whole_size : Schema → Var → ℕ
whole_size s x = slab s.dims x + padding_in s x

-- slabs one after another, each with its padding
abbrev pub in_turn : Schema → List Var → List Values → List ℕ
in_turn s vars values = flat_map (with_padding s) (zip vars values)

abbrev pub bytes_of_record : Schema → (slabs : List Values) → List ℕ
bytes_of_record s slabs = in_turn s (record_vars s.dims s.vars) slabs

-- ---- with more records

-- the dataset with these records after its own
abbrev pub followed_by : Dataset → (more : List (List Values)) → Dataset
followed_by d more = record {
  schema = with_count d.schema (known d.schema.count + length more);
  fixed = d.fixed;
  records = d.records ++ more;
}

-- ---- an open file's sizes

-- the sizes of the placed variables are those of the schema
pub record HasSizes (s : Schema) (p : Placed) : Type 0 where
  pub sound : Sound s
  pub slabs : map (λ x. x.extent.slab) (vars_of p) ≡ map (slab s.dims) s.vars
  pub record_size : record_size_of_file p ≡ record_size_of s
