-- Sizes of variables and of a record (The NetCDF Classic Format Specification, "Note on vsize" and "Note on padding").
use Rattle.std.specs.Prelude.{◌≡◌, ℕ, ◌+◌, ◌-◌, ◌*◌, ◌^◌, ◌<◌, ◌≤◌, ltb, not, Option, Some, None, Result, Ok, Err, List, [], ◌∷◌, ◌++◌, length, map, take, drop, filter, get_or, sum_by, Bool, true, false, if◌then◌else◌}
use Rattle.std.specs.List.{AllByRecursion}
use Rattle.ncc_values.specs.Padding.{padding_of}
use Rattle.ncc_values.specs.XType.{size_of}
use Rattle.ncc_schema.specs.declared.schema.Dim.{Dim}
use Rattle.ncc_schema.specs.declared.schema.Var.{Var}
use Rattle.ncc_schema.specs.declared.schema.Schema.{Schema}
use Rattle.ncc_schema.specs.Schema.{lengths, is_record_var}
use Rattle.ncc_layout.specs.declared.fault.SizeError.{SizeError}
use Rattle.ncc_layout.specs.declared.fault.SizeError.TheVariants.{TooLarge, Memory}
use Rattle.ncc_layout.specs.declared.size_list.Sizes.{Sizes}
use Rattle.ncc_layout.specs.declared.sizing.Totals.{Totals}

-- ---- a variable

-- n and its padding
abbrev pub up : ℕ → ℕ
up n = n + padding_of n

abbrev pub product : List ℕ → ℕ
product [] = 1
product (n ∷ ns) = n * product ns

abbrev pub length_of : List Dim → ℕ → ℕ
length_of dims d = get_or (lengths dims) d 0

-- the lengths of a variable without the record dimension
abbrev pub inner : List Dim → Var → List ℕ
inner dims x = map (length_of dims) (if is_record_var dims x then drop 1 x.dims else x.dims)

-- the bytes of a fixed variable, or of a record variable in one record
abbrev pub slab : List Dim → Var → ℕ
slab dims x = product (inner dims x) * size_of x.xtype

abbrev pub rounded : List Dim → Var → ℕ
rounded dims x = up (slab dims x)

-- a number that a u64 can have
abbrev pub in_u64 : ℕ → Option ℕ
in_u64 n = if ltb n (2 ^ 64) then Some n else None

-- ---- a record

abbrev pub record_vars : List Dim → List Var → List Var
record_vars dims vars = filter (is_record_var dims) vars

abbrev pub record_sum : List Dim → List Var → ℕ
record_sum dims vars = sum_by (rounded dims) (record_vars dims vars)

-- the bytes of a record with these slabs, each with its padding; a lone one has none
abbrev pub record_bytes : (slabs : List ℕ) → ℕ
record_bytes [] = 0
record_bytes (n ∷ []) = n
record_bytes (m ∷ n ∷ slabs) = sum_by up (m ∷ n ∷ slabs)

abbrev pub record_slabs : List Dim → List Var → List ℕ
record_slabs dims vars = map (slab dims) (record_vars dims vars)

abbrev pub record_size_of : Schema → ℕ
record_size_of s = record_bytes (record_slabs s.dims s.vars)

-- ---- what fits

-- the greatest size
abbrev pub room : ℕ
room = 2 ^ 63 - 4

-- TooLarge: no padded size, nor the sum of those of the record variables, is more than the greatest size
pub record NoneTooLarge (dims : List Dim) (vars : List Var) : Type 0 where
  pub each : AllByRecursion (λ x. rounded dims x ≤ room) vars
  pub together : record_sum dims vars ≤ room

-- the first variables fit, and no longer with this one
pub record FirstTooLarge (s : Schema) (number : ℕ) : Type 0 where
  pub there : number < length s.vars
  pub before : NoneTooLarge s.dims (take number s.vars)
  pub here : NoneTooLarge s.dims (take (number + 1) s.vars) → ⊥

-- all sizes of a schema
pub record AreSizes (s : Schema) (z : Sizes) : Type 0 where
  pub none_too_large : NoneTooLarge s.dims s.vars
  pub slabs : z.slabs ≡ map (slab s.dims) s.vars
  pub rounded : z.rounded ≡ map (rounded s.dims) s.vars
  pub record_size : z.record_size ≡ record_size_of s

abbrev pub IsSizes : Schema → Result Sizes SizeError → Type 0
IsSizes s (Ok z) = AreSizes s z
IsSizes s (Err (TooLarge n)) = FirstTooLarge s n
IsSizes s (Err Memory) = Unit {0}

-- ---- the sums of a run over the variables

abbrev pub is_nil : List Var → Bool
is_nil [] = true
is_nil (x ∷ vars) = false

-- the sums over these variables
pub record Sums (dims : List Dim) (vars : List Var) (t : Totals) : Type 0 where
  pub any : t.any ≡ not (is_nil (record_vars dims vars))
  pub sum_is : t.sum ≡ record_sum dims vars
  pub size_is : t.size ≡ record_bytes (record_slabs dims vars)

-- what becomes of sums over the variables before, with this one
abbrev pub Adds : List Dim → List Var → Var → Option (ℕ × Totals) → Type 0
Adds dims before x None = NoneTooLarge dims (before ++ x ∷ []) → ⊥
Adds dims before x (Some (n, t)) =
    (n ≡ slab dims x) × (n ≤ room) × (t.sum ≤ room)
    × Sums dims (before ++ x ∷ []) t × NoneTooLarge dims (before ++ x ∷ [])

-- a size that is not too large
abbrev pub in_room : ℕ → Option ℕ
in_room n = if ltb room n then None else Some n

-- the sums with one more record variable
abbrev pub with_slab : Totals → (slab : ℕ) → Option Totals
with_slab t n =
    if ltb room (t.sum + up n)
    then None
    else Some (record { any = true; sum = t.sum + up n; size = if t.any then t.sum + up n else n })
