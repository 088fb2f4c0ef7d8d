-- Where the names and the begins of a canonical header stand, and its length.
use Rattle.std.specs.Prelude.{◌≡◌, ℕ, suc, ◌+◌, ◌-◌, ◌^◌, ◌<◌, List, [], ◌∷◌, ◌++◌, length, map, take, drop, zip, min}
use Rattle.std.specs.List.{flat_map}
use Rattle.ncc_values.specs.Version.{count_width_of, offset_width_of}
use Rattle.ncc_values.specs.declared.version.Version.{Version}
use Rattle.ncc_schema.specs.declared.names.NameOf.{NameOf}
use Rattle.ncc_schema.specs.declared.names.NameOf.TheVariants as of
use Rattle.ncc_schema.specs.declared.schema.Dim.{Dim}
use Rattle.ncc_schema.specs.declared.schema.Attr.{Attr}
use Rattle.ncc_schema.specs.declared.schema.Var.{Var}
use Rattle.ncc_schema.specs.declared.schema.Schema.{Schema}
use Rattle.ncc_schema.specs.Schema.{Place}
use Rattle.ncc_schema.specs.Header.{nc_dimension, nc_attribute, canon_name, canon_list, canon_dim, canon_attr, canon_dimids, canon_var, canon}

-- ---- names

abbrev pub first_dim : List Dim → List ℕ
first_dim [] = []
first_dim (d ∷ dims) = d.name

abbrev pub first_attr : List Attr → List ℕ
first_attr [] = []
first_attr (a ∷ attrs) = a.name

abbrev pub first_var : List Var → List ℕ
first_var [] = []
first_var (x ∷ vars) = x.name

-- the attributes of the first variable
abbrev pub first_attrs : List Var → List Attr
first_attrs [] = []
first_attrs (x ∷ vars) = x.attrs

-- the schema has this name
abbrev pub HasName : Schema → NameOf → Type 0
HasName s (of.Dim i) = i < length s.dims
HasName s (of.Global i) = i < length s.gatts
HasName s (of.Var i) = i < length s.vars
HasName s (of.Attr i j) = (i < length s.vars) × (j < length (first_attrs (drop i s.vars)))

abbrev pub name_of : Schema → NameOf → List ℕ
name_of s (of.Dim i) = first_dim (drop i s.dims)
name_of s (of.Global i) = first_attr (drop i s.gatts)
name_of s (of.Var i) = first_var (drop i s.vars)
name_of s (of.Attr i j) = first_attr (drop j (first_attrs (drop i s.vars)))

-- ---- offsets

-- letters, version and number of records
abbrev pub head_size : Version → ℕ
head_size v = 4 + count_width_of v

-- the tag of a list and the number of its items
abbrev pub list_size : Version → ℕ
list_size v = 4 + count_width_of v

-- the bytes of the first items of a list
abbrev pub before : {A : Type 0} → (A → List ℕ) → ℕ → List A → ℕ
before item i items = length (flat_map item (take i items))

abbrev pub gatts_at : Schema → ℕ
gatts_at s = head_size s.version + length (canon_list s.version nc_dimension (canon_dim s.version) s.dims)

abbrev pub vars_at : Schema → ℕ
vars_at s = gatts_at s + length (canon_list s.version nc_attribute (canon_attr s.version) s.gatts)

abbrev pub var_at : Schema → List Place → ℕ → ℕ
var_at s places i = vars_at s + list_size s.version + before (canon_var s.version) i (zip s.vars places)

-- the begin field of a variable, which is the last of its fields
abbrev pub begin_at : Schema → List Place → ℕ → ℕ
begin_at s places i = var_at s places (suc i) - offset_width_of s.version

-- the first attribute of a variable, counted from the variable
abbrev pub attrs_in : Version → Var → ℕ
attrs_in v x = length (canon_name v x.name) + length (canon_dimids v x.dims) + list_size v

-- an attribute of the first variable, counted from the variable
abbrev pub attr_in : Version → ℕ → List Var → ℕ
attr_in v j [] = 0
attr_in v j (x ∷ vars) = attrs_in v x + before (canon_attr v) j x.attrs

-- the offset of the name's length
abbrev pub name_at : Schema → List Place → NameOf → ℕ
name_at s places (of.Dim i) = head_size s.version + list_size s.version + before (canon_dim s.version) i s.dims
name_at s places (of.Global i) = gatts_at s + list_size s.version + before (canon_attr s.version) i s.gatts
name_at s places (of.Var i) = var_at s places i
name_at s places (of.Attr i j) = var_at s places i + attr_in s.version j (drop i s.vars)

-- ---- sizes whatever the places

-- some place, where only sizes matter
abbrev pub no_place : Place
no_place = record { vsize = 0; begin = 0 }

abbrev pub canon_unplaced : Version → Var → List ℕ
canon_unplaced v x = canon_var v (x, no_place)

abbrev pub unplaced : List Var → List Place
unplaced vars = map (λ x. no_place) vars

-- the length of the canonical header
abbrev pub header_length : Schema → ℕ
header_length s = length (canon s (unplaced s.vars))

-- a number, or the greatest u64 in place of one past it
abbrev pub capped : ℕ → ℕ
capped n = min n (2 ^ 64 - 1)

-- ---- what stands where

-- the piece stands in the bytes at this offset
pub record StandsAt (bytes piece : List ℕ) (at : ℕ) : Type 0 where
  pub front : List ℕ
  pub rest : List ℕ
  pub joined : bytes ≡ front ++ (piece ++ rest)
  pub long : length front ≡ at
