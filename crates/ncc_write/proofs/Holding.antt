-- The file of a dataset holds it.
use Rattle.std.proofs.Common.{◌≡◌, ℕ, suc, ◌+◌, ◌*◌, ◌<◌, ◌≤◌, Bool, true, false, List, [], ◌∷◌, ◌++◌, length, take, get_or, refl, sym, ap, ap₂, subst, ◌∙◌, arith}
use Rattle.std.specs.Prelude.{if◌then◌else◌}
use Rattle.std.proofs.lemmas.List.{take_at}
use Rattle.std.proofs.lemmas.Nat.{row_fits}
use Rattle.ncc_values.specs.Values.{bytes_of}
use Rattle.ncc_values.specs.XType.{size_of}
use Rattle.ncc_values.specs.declared.values.Values.{Values}
use Rattle.ncc_schema.specs.declared.schema.Schema.{Schema}
use Rattle.ncc_schema.specs.declared.schema.Var.{Var}
use Rattle.ncc_schema.specs.Names.{header_length}
use Rattle.ncc_schema.specs.Schema.{Place, is_record_var}
use Rattle.ncc_layout.specs.declared.placed_var.PlacedVar.{PlacedVar}
use Rattle.ncc_layout.specs.Sizes.{product, inner, slab, record_vars, record_sum, record_size_of}
use Rattle.ncc_layout.specs.Standard.{standard_from, standard_place, standard_places, fixed_sum}
use Rattle.ncc_layout.specs.Elements.{placed_var, placed_from, var_at, row_major, Inside}
use Rattle.ncc_layout.specs.Plans.{known}
use Rattle.ncc_build.specs.Dataset.{fixed_vars, Dataset, IsDataset}
use Rattle.ncc_build.specs.File.{file_of}
use Rattle.ncc_write.specs.Holds.{bytes_at, no_slab, before, vars_of, value_at, stored_at, HoldsValues}
use Rattle.ncc_write.proofs.Slabs.{length_slab}
use Rattle.ncc_layout.proofs.StandardPlaces.{length-standard_from}
use Rattle.ncc_write.proofs.Pieces.{split_at, read_in}
use Rattle.ncc_write.proofs.SlabPlaces.{Placed, fixed_placed, record_placed}
use Rattle.ncc_write.proofs.Indices.{row_below, var_placed, standard_split}

-- an element of a slab that stands in the file
pub element_read : (s : Schema) (file : List ℕ) (x : Var) (values : Values) (at : ℕ) (is : List ℕ)
    → Placed s file x values at → Inside (inner s.dims x) is
    → bytes_at file (at + row_major (inner s.dims x) is * size_of x.xtype) (size_of x.xtype) ≡ bytes_at
    (bytes_of values) (row_major (inner s.dims x) is * size_of x.xtype) (size_of x.xtype)
element_read s file x values at is placed inside =
    let w = size_of x.xtype in
    let k = row_major (inner s.dims x) is in
    let fits : k * w + w ≤ product (inner s.dims x) * w =
    row_fits k w (product (inner s.dims x)) w (row_below (inner s.dims x) is inside) (omega arith) in
    read_in file (bytes_of values) at (k * w) w placed.stands
    (omega (arith, fits, length_slab s.dims x values placed.slab_is))

-- ---- one variable

module _ (d : Dataset) (is : IsDataset d) (front : List Var) (x : Var) (after : List Var)
    (joined : d.schema.vars ≡ front ++ x ∷ after) where
  abbrev s : Schema
  s = d.schema

  abbrev n : ℕ
  n = length front

  front_is : take n s.vars ≡ front
  front_is = ap (take n) joined ∙ take_at front (x ∷ after) n refl

  -- the variable at its standard place, by its kind
  abbrev begin_by : Bool → ℕ
  begin_by b = if b then header_length s + fixed_sum s.dims s.vars + record_sum s.dims
      (take n s.vars) else header_length s + fixed_sum s.dims (take n s.vars)

  abbrev placed_by : Bool → PlacedVar
  placed_by b = record {
    xtype = x.xtype;
    shape = if b then known s.count ∷ inner s.dims x else inner s.dims x;
    extent = record { begin = begin_by b; slab = slab s.dims x; variable = n; is_record = b };
  }

  abbrev Kept : PlacedVar → Type 0
  Kept y = (index : List ℕ) → Inside y.shape index → stored_at (file_of d)
      (record_size_of s) y index ≡ value_at d y n index

  fixed_kept : is_record_var s.dims x ≡ false → Kept (placed_by false)
  fixed_kept kind index inside =
      let w = size_of x.xtype in
      let at : header_length s + fixed_sum s.dims (take n s.vars) ≡ header_length s + fixed_sum s.dims front =
      ap (λ (l : List Var). header_length s + fixed_sum s.dims l) front_is in
      let number : length (fixed_vars s.dims front) ≡ before s false n =
      ap (λ (l : List Var). length (fixed_vars s.dims l)) (sym front_is) in
      let k = row_major (inner s.dims x) index * w in
      ap (λ (m : ℕ). bytes_at (file_of d) (m + k) w) at
      ∙ element_read s (file_of d) x (get_or d.fixed (length (fixed_vars s.dims front)) no_slab)
      (header_length s + fixed_sum s.dims front) index (fixed_placed d is front x after joined kind) inside
      ∙ ap (λ (m : ℕ). bytes_at (bytes_of (get_or d.fixed m no_slab)) k w) number

  record_kept : is_record_var s.dims x ≡ true → Kept (placed_by true)
  record_kept kind [] inside = absurd inside
  record_kept kind (r ∷ index) inside =
      let w = size_of x.xtype in
      let size = record_size_of s in
      let k = row_major (inner s.dims x) index * w in
      let sums : record_sum s.dims (take n s.vars) ≡ record_sum s.dims front = ap (record_sum s.dims) front_is in
      let at : header_length s + fixed_sum s.dims s.vars + record_sum s.dims (take n s.vars) +
      (r * size + k) ≡ header_length s + (fixed_sum s.dims s.vars + (r * size + record_sum s.dims front)) + k =
      omega (arith, sums) in
      let number : length (record_vars s.dims front) ≡ before s true n =
      ap (λ (l : List Var). length (record_vars s.dims l)) (sym front_is) in
      let below : r < length d.records = omega (arith, inside.0, is.records_number) in
      ap (λ (m : ℕ). bytes_at (file_of d) m w) at
      ∙ element_read s (file_of d) x (get_or (get_or d.records r []) (length (record_vars s.dims front)) no_slab)
      (header_length s + (fixed_sum s.dims s.vars + (r * size + record_sum s.dims front))) index
      (record_placed d is front x after joined kind r below) inside.1
      ∙ ap (λ (m : ℕ). bytes_at (bytes_of (get_or (get_or d.records r []) m no_slab)) k w) number

  kept_by : (b : Bool) → is_record_var s.dims x ≡ b → Kept (placed_by b)
  kept_by true kind = record_kept kind
  kept_by false kind = fixed_kept kind

  var_is : var_at (vars_of d (standard_places s)) n ≡ placed_by (is_record_var s.dims x)
  var_is =
      let none : 0 + n ≡ n = omega arith in
      let places : standard_places s ≡ standard_from s 0 front ++ standard_place s (0 + n) x ∷ standard_from s
      (suc (0 + n)) after = ap (standard_from s 0) joined ∙ standard_split s 0 front x after in
      ap₂ (λ (vars : List Var) (l : List Place). var_at (placed_from s.dims (known s.count) 0 vars l) n) joined places
      ∙ var_placed s.dims (known s.count) 0 front x after (standard_from s 0 front) (standard_place s (0 + n) x)
      (standard_from s (suc (0 + n)) after) (sym (length-standard_from s 0 front))
      ∙ ap (λ (m : ℕ). placed_var s.dims (known s.count) m x (standard_place s m x)) none

  pub kept : Kept (var_at (vars_of d (standard_places s)) n)
  kept = subst Kept (sym var_is) (kept_by (is_record_var s.dims x) refl)

-- ---- all variables

pub file_holds : (d : Dataset) → IsDataset d → HoldsValues (file_of d) (standard_places d.schema) d
file_holds d is n index below inside =
    let at = split_at d.schema.vars n below in
    subst (λ (m : ℕ). (index : List ℕ) → Inside (var_at (vars_of d (standard_places d.schema)) m).shape index
    → stored_at (file_of d) (record_size_of d.schema) (var_at (vars_of d (standard_places d.schema)) m) index
    ≡ value_at d (var_at (vars_of d (standard_places d.schema)) m) m index) at.long
    (kept d is at.front at.item at.after at.joined) index inside
