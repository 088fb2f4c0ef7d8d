-- A file's bytes hold a dataset: those of each element are the bytes of its value.
use Rattle.std.specs.Prelude.{◌≡◌, ℕ, ◌*◌, ◌<◌, List, [], ◌∷◌, length, take, drop, get_or, Bool, true, false}
use Rattle.ncc_values.specs.Values.{bytes_of, no_values}
use Rattle.ncc_values.specs.XType.{size_of}
use Rattle.ncc_values.specs.declared.values.Values.{Values}
use Rattle.ncc_values.specs.declared.xtype.XType.TheVariants.{Byte}
use Rattle.ncc_schema.specs.declared.schema.Schema.{Schema}
use Rattle.ncc_schema.specs.Schema.{Place}
use Rattle.ncc_layout.specs.declared.placed_var.PlacedVar.{PlacedVar}
use Rattle.ncc_layout.specs.Sizes.{record_vars, record_size_of}
use Rattle.ncc_layout.specs.Elements.{placed_with, var_at, place_of, row_major, Inside}
use Rattle.ncc_layout.specs.Plans.{known}
use Rattle.ncc_build.specs.Dataset.{fixed_vars, Dataset}

-- n bytes from a place on
abbrev pub bytes_at : List ℕ → (place n : ℕ) → List ℕ
bytes_at bytes place n = take n (drop place bytes)

-- ---- a dataset's values

-- slabs that aren't there
abbrev pub no_slab : Values
no_slab = no_values Byte

-- how many fixed variables, or record variables, stand before this one
abbrev pub before : Schema → (is_record : Bool) → (number : ℕ) → ℕ
before s true n = length (record_vars s.dims (take n s.vars))
before s false n = length (fixed_vars s.dims (take n s.vars))

-- the slab of a variable in which the element with this index list is
abbrev pub slab_with : Dataset → (number : ℕ) → (is_record : Bool) → (index : List ℕ) → Values
slab_with d n true (r ∷ is) = get_or (get_or d.records r []) (before d.schema true n) no_slab
slab_with d n true [] = no_slab
slab_with d n false is = get_or d.fixed (before d.schema false n) no_slab

-- the number of an element in its slab, row-major
abbrev pub number_in_slab : (is_record : Bool) → (lengths index : List ℕ) → ℕ
number_in_slab true (n ∷ ls) (i ∷ is) = row_major ls is
number_in_slab true _ _ = 0
number_in_slab false ls is = row_major ls is

-- the variables of a dataset at these places
abbrev pub vars_of : Dataset → List Place → List PlacedVar
vars_of d places = placed_with d.schema places (known d.schema.count)

-- the bytes of an element's value in the dataset
abbrev pub value_at : Dataset → PlacedVar → (number : ℕ) → (index : List ℕ) → List ℕ
value_at d x n index =
    bytes_at (bytes_of (slab_with d n x.extent.is_record index))
    (number_in_slab x.extent.is_record x.shape index * size_of x.xtype) (size_of x.xtype)

-- ---- what a file holds

-- the bytes of an element in a file
abbrev pub stored_at : List ℕ → (record_size : ℕ) → PlacedVar → (index : List ℕ) → List ℕ
stored_at file record_size x index = bytes_at file (place_of record_size x index) (size_of x.xtype)

-- the bytes of each element are those of the dataset's value
abbrev pub HoldsValues : List ℕ → List Place → Dataset → Type 0
HoldsValues file places d =
    (n : ℕ) (index : List ℕ) → n < length d.schema.vars → Inside (var_at (vars_of d places) n).shape index
    → stored_at file (record_size_of d.schema) (var_at (vars_of d places) n) index
    ≡ value_at d (var_at (vars_of d places) n) n index
