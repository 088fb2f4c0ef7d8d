-- The rows of an index describe the schema of its header.
use Rattle.std.proofs.Common.{◌≡◌, ℕ, ◌+◌, ◌*◌, List, [], ◌∷◌, ◌++◌, length, map, take, drop, refl, sym, ap, ap₂, ◌∙◌, arith}
use Rattle.std.specs.List.{AllByRecursion, flat_map}
use Rattle.std.proofs.Math.Seq.{take-append_seam, drop-append_seam}
use Rattle.std.proofs.lemmas.List.{length-append}
use Rattle.ncc_values.proofs.ValuesLemmas.{length-bytes_of, values_of-bytes_of}
use Rattle.ncc_values.specs.Values.{bytes_of, count_of, type_of, values_of}
use Rattle.ncc_values.specs.XType.{code_of, size_of}
use Rattle.ncc_values.specs.declared.values.Values.{Values}
use Rattle.ncc_values.specs.declared.version.Version.{Version}
use Rattle.ncc_values.specs.declared.xtype.XType.{XType}
use Rattle.ncc_schema.specs.declared.schema.Attr.{Attr}
use Rattle.ncc_schema.specs.declared.schema.Count.TheVariants.{Known}
use Rattle.ncc_schema.specs.declared.schema.Dim.{Dim}
use Rattle.ncc_schema.specs.declared.schema.Schema.{Schema}
use Rattle.ncc_schema.specs.declared.schema.Var.{Var}
use Rattle.ncc_schema.specs.Header.{canon_attr, canon_dim}
use Rattle.ncc_schema.specs.Names.{StandsAt, attrs_in, canon_unplaced, gatts_at, head_size, list_size, vars_at}
use Rattle.ncc_schema.specs.Schema.{IsTyped, IsTypedAttr, IsTypedVar, with_count}
use Rattle.ncc_layout.specs.declared.placed_var.PlacedVar.{PlacedVar}
use Rattle.ncc_build.specs.Dataset.{with_version}
use Rattle.ncc_c.specs.declared.rows.AttrRow.{AttrRow}
use Rattle.ncc_c.specs.declared.rows.VarRow.{VarRow}
use Rattle.ncc_c.specs.Describing.{AttrFits, DimFits, IsIn, RowsFit, VarFits, attr_by, attrs_by, dim_by, globals_by, ids_by, schema_by, slice, type_by, values_size, var_by, vars_by}
use Rattle.ncc_c.specs.Rows.{AllStand, AttrsStand, DimsStand, VarsStand, all_attr_rows, all_dim_rows, all_var_rows, attr_count, attr_row, attr_rows, attrs_of_vars, dim_row, dim_rows, id_count, ids_of_vars, var_row, var_rows}
use Rattle.ncc_c.proofs.Codes.{is_type, type_is}
use Rattle.ncc_c.proofs.PuttingRows.{length-attr_rows, length-attrs_of_vars, length-ids_of_vars}

-- a schema of these, without records
abbrev schema_with : Version → List Dim → List Attr → List Var → Schema
schema_with v dims gatts vars = record { version = v; count = Known 0; dims = dims; gatts = gatts; vars = vars }

-- the first part of two, and the second
first_part : {A : Type 0} (n : ℕ) (xs ys : List A) → length xs ≡ n → take n (xs ++ ys) ≡ xs
first_part n xs ys e = ap (λ (k : ℕ). take k (xs ++ ys)) (sym e) ∙ take-append_seam xs ys

second_part : {A : Type 0} (n : ℕ) (xs ys : List A) → length xs ≡ n → drop n (xs ++ ys) ≡ ys
second_part n xs ys e = ap (λ (k : ℕ). drop k (xs ++ ys)) (sym e) ∙ drop-append_seam xs ys

module _ (bytes : List ℕ) where
  -- ---- what stands somewhere

  here : (x : List ℕ) (at n : ℕ) → length x ≡ n → StandsAt bytes x at → slice bytes at n ≡ x
  here x at n long s =
      ap (λ (z : List ℕ). take n (drop at z)) s.joined
      ∙ ap (take n) (second_part at s.front (x ++ s.rest) s.long)
      ∙ first_part n x s.rest long

  inside : (x : List ℕ) (at n : ℕ) → length x ≡ n → StandsAt bytes x at → IsIn bytes at n
  inside x at n long s =
      omega (arith, long, s.long, ap (λ (z : List ℕ). length z) s.joined, length-append s.front (x ++ s.rest), length-append x s.rest)

  -- ---- dimensions

  dims_are : (v : Version) (at : ℕ) (dims : List Dim) → DimsStand bytes dims (dim_rows v at dims) → map (dim_by bytes) (dim_rows v at dims) ≡ dims
  dims_are v at [] s = refl
  dims_are v at (d ∷ dims) s =
      ap₂ (λ (n : List ℕ) (ds : List Dim). record { name = n; length = d.length } ∷ ds)
      (here d.name (dim_row v at d).name_at (length d.name) refl s.0)
      (dims_are v (at + length (canon_dim v d)) dims s.1)

  dims_fit : (v : Version) (at : ℕ) (dims : List Dim) → DimsStand bytes dims (dim_rows v at dims) → AllByRecursion (DimFits bytes) (dim_rows v at dims)
  dims_fit v at [] s = tt
  dims_fit v at (d ∷ dims) s = (
    inside d.name (dim_row v at d).name_at (length d.name) refl s.0,
    dims_fit v (at + length (canon_dim v d)) dims s.1,
  )

  -- ---- attributes

  sized : (a : Attr) (r : AttrRow) → r.xtype ≡ code_of (type_of a.values) → r.count ≡ count_of a.values → length (bytes_of a.values) ≡ values_size r
  sized a r coded counted =
      let t : type_by r.xtype ≡ type_of a.values = ap type_by coded ∙ type_is (type_of a.values) in
      length-bytes_of a.values ∙ ap₂ (λ (n : ℕ) (x : XType). n * size_of x) (sym counted) (sym t)

  values_are : (a : Attr) (r : AttrRow) → r.xtype ≡ code_of (type_of a.values) → r.count ≡ count_of a.values → IsTypedAttr a → StandsAt bytes (bytes_of a.values) r.values_at
      → values_of (type_by r.xtype) (slice bytes r.values_at (values_size r)) ≡ a.values
  values_are a r coded counted typed s =
      let t : type_by r.xtype ≡ type_of a.values = ap type_by coded ∙ type_is (type_of a.values) in
      ap₂ (λ (x : XType) (b : List ℕ). values_of x b) t (here (bytes_of a.values) r.values_at (values_size r) (sized a r coded counted) s)
      ∙ values_of-bytes_of a.values typed.values

  attrs_are : (v : Version) (at : ℕ) (attrs : List Attr) → AllByRecursion IsTypedAttr attrs → AttrsStand bytes attrs (attr_rows v at attrs) → map (attr_by bytes) (attr_rows v at attrs) ≡ attrs
  attrs_are v at [] typed s = refl
  attrs_are v at (a ∷ attrs) typed s =
      let one : attr_by bytes (attr_row v at a) ≡ a =
      ap₂ (λ (n : List ℕ) (x : Values). record { name = n; values = x })
      (here a.name (attr_row v at a).name_at (length a.name) refl s.0)
      (values_are a (attr_row v at a) refl refl typed.0 s.1) in
      ap₂ (λ (x : Attr) (xs : List Attr). x ∷ xs) one (attrs_are v (at + length (canon_attr v a)) attrs typed.1 s.2)

  attrs_fit : (v : Version) (at : ℕ) (attrs : List Attr) → AttrsStand bytes attrs (attr_rows v at attrs) → AllByRecursion (AttrFits bytes) (attr_rows v at attrs)
  attrs_fit v at [] s = tt
  attrs_fit v at (a ∷ attrs) s = (
    record {
      name = inside a.name (attr_row v at a).name_at (length a.name) refl s.0;
      typed = is_type (type_of a.values);
      values = inside (bytes_of a.values) (attr_row v at a).values_at _ (sized a (attr_row v at a) refl refl) s.1;
    },
    attrs_fit v (at + length (canon_attr v a)) attrs s.2,
  )

  -- of two lists one after the other
  apart : (xs ys : List Attr) (rows more : List AttrRow) → length rows ≡ length xs → AttrsStand bytes (xs ++ ys) (rows ++ more) → AttrsStand bytes xs rows × AttrsStand bytes ys more
  apart [] ys [] more e s = (tt, s)
  apart [] ys (r ∷ rows) more e s = absurd (omega (arith, e))
  apart (x ∷ xs) ys [] more e s = absurd (omega (arith, e))
  apart (x ∷ xs) ys (r ∷ rows) more e s =
      let rest = apart xs ys rows more (omega (arith, e)) s.2 in
      ((s.0, s.1, rest.0), rest.1)

  joined_fit : (rows more : List AttrRow) → AllByRecursion (AttrFits bytes) rows → AllByRecursion (AttrFits bytes) more → AllByRecursion (AttrFits bytes) (rows ++ more)
  joined_fit [] more a b = b
  joined_fit (r ∷ rows) more a b = (a.0, joined_fit rows more a.1 b)

  all_attrs_fit : (v : Version) (at : ℕ) (vars : List Var) → AttrsStand bytes (flat_map (λ x. x.attrs) vars) (attrs_of_vars v at vars) → AllByRecursion (AttrFits bytes) (attrs_of_vars v at vars)
  all_attrs_fit v at [] s = tt
  all_attrs_fit v at (x ∷ vars) s =
      let own = attr_rows v (at + attrs_in v x) x.attrs in
      let next = at + length (canon_unplaced v x) in
      let parts = apart x.attrs (flat_map (λ y. y.attrs) vars) own (attrs_of_vars v next vars) (length-attr_rows v (at + attrs_in v x) x.attrs) s in
      joined_fit own (attrs_of_vars v next vars) (attrs_fit v (at + attrs_in v x) x.attrs parts.0) (all_attrs_fit v next vars parts.1)

  -- ---- variables

  vars_are : (v : Version) (at : ℕ) (vars : List Var) (placed : List PlacedVar) → length placed ≡ length vars → AllByRecursion IsTypedVar vars
      → VarsStand bytes vars (var_rows v at vars placed) → AttrsStand bytes (flat_map (λ x. x.attrs) vars) (attrs_of_vars v at vars)
      → vars_by bytes (attrs_of_vars v at vars) (ids_of_vars vars) (var_rows v at vars placed) ≡ vars
  vars_are v at [] placed e typed s t = refl
  vars_are v at (x ∷ vars) [] e typed s t = absurd (omega (arith, e))
  vars_are v at (x ∷ vars) (p ∷ placed) e typed s t =
      let own = attr_rows v (at + attrs_in v x) x.attrs in
      let next = at + length (canon_unplaced v x) in
      let others = attrs_of_vars v next vars in
      let ids = ids_of_vars vars in
      let row = var_row v at x p in
      let long = length-attr_rows v (at + attrs_in v x) x.attrs in
      let parts = apart x.attrs (flat_map (λ y. y.attrs) vars) own others long t in
      let attrs : map (attr_by bytes) (take row.attrs (own ++ others)) ≡ x.attrs =
      ap (map (attr_by bytes)) (first_part (length x.attrs) own others long) ∙ attrs_are v (at + attrs_in v x) x.attrs typed.0.attrs parts.0 in
      let one : var_by bytes row (take row.attrs (own ++ others)) (take row.rank (x.dims ++ ids)) ≡ x =
      ap₂ (λ (n : List ℕ) (more : List Attr). record { name = n; dims = take row.rank (x.dims ++ ids); attrs = more; xtype = type_by row.xtype })
      (here x.name row.name_at (length x.name) refl s.0) attrs
      ∙ ap₂ (λ (ds : List ℕ) (y : XType). record { name = x.name; dims = ds; attrs = x.attrs; xtype = y })
      (first_part (length x.dims) x.dims ids refl) (type_is x.xtype) in
      let rest : vars_by bytes (drop row.attrs (own ++ others)) (drop row.rank (x.dims ++ ids)) (var_rows v next vars placed) ≡ vars =
      ap₂ (λ (more : List AttrRow) (ds : List ℕ). vars_by bytes more ds (var_rows v next vars placed))
      (second_part (length x.attrs) own others long) (second_part (length x.dims) x.dims ids refl)
      ∙ vars_are v next vars placed (omega (arith, e)) typed.1 s.1 parts.1 in
      ap₂ (λ (y : Var) (ys : List Var). y ∷ ys) one rest

  vars_fit : (v : Version) (at : ℕ) (vars : List Var) (placed : List PlacedVar) → length placed ≡ length vars → VarsStand bytes vars (var_rows v at vars placed) → AllByRecursion (VarFits bytes) (var_rows v at vars placed)
  vars_fit v at [] placed e s = tt
  vars_fit v at (x ∷ vars) [] e s = absurd (omega (arith, e))
  vars_fit v at (x ∷ vars) (p ∷ placed) e s = (
    record { name = inside x.name (var_row v at x p).name_at (length x.name) refl s.0; typed = is_type x.xtype },
    vars_fit v (at + length (canon_unplaced v x)) vars placed (omega (arith, e)) s.1,
  )

  attrs_taken : (v : Version) (at : ℕ) (vars : List Var) (placed : List PlacedVar) → length placed ≡ length vars → attrs_by (var_rows v at vars placed) ≡ attr_count vars
  attrs_taken v at [] placed e = refl
  attrs_taken v at (x ∷ vars) [] e = absurd (omega (arith, e))
  attrs_taken v at (x ∷ vars) (p ∷ placed) e = ap (λ (n : ℕ). length x.attrs + n) (attrs_taken v (at + length (canon_unplaced v x)) vars placed (omega (arith, e)))

  ids_taken : (v : Version) (at : ℕ) (vars : List Var) (placed : List PlacedVar) → length placed ≡ length vars → ids_by (var_rows v at vars placed) ≡ id_count vars
  ids_taken v at [] placed e = refl
  ids_taken v at (x ∷ vars) [] e = absurd (omega (arith, e))
  ids_taken v at (x ∷ vars) (p ∷ placed) e = ap (λ (n : ℕ). length x.dims + n) (ids_taken v (at + length (canon_unplaced v x)) vars placed (omega (arith, e)))

  -- ---- a schema

  module _ (s : Schema) (placed : List PlacedVar) (long : length placed ≡ length s.vars) (stand : AllStand bytes s placed) (typed : IsTyped s) where
    abbrev v : Version
    v = s.version

    abbrev globals : List AttrRow
    globals = attr_rows v (gatts_at s + list_size v) s.gatts

    abbrev others : List AttrRow
    others = attrs_of_vars v (vars_at s + list_size v) s.vars

    abbrev rows : List VarRow
    rows = all_var_rows s placed

    globals_long : length globals ≡ length s.gatts
    globals_long = length-attr_rows v (gatts_at s + list_size v) s.gatts

    taken : attrs_by rows ≡ length others
    taken = attrs_taken v (vars_at s + list_size v) s.vars placed long ∙ sym (length-attrs_of_vars v (vars_at s + list_size v) s.vars)

    count_is : globals_by (globals ++ others) rows ≡ length globals
    count_is = omega (arith, taken, length-append globals others)

    parts : AttrsStand bytes s.gatts globals × AttrsStand bytes (flat_map (λ x. x.attrs) s.vars) others
    parts = apart s.gatts (flat_map (λ x. x.attrs) s.vars) globals others globals_long stand.attrs

    pub described_fit : RowsFit bytes (all_dim_rows s) (all_attr_rows s) rows (ids_of_vars s.vars)
    described_fit = record {
      dims_fit = dims_fit v (head_size v + list_size v) s.dims stand.dims;
      attrs_fit = joined_fit globals others (attrs_fit v (gatts_at s + list_size v) s.gatts parts.0) (all_attrs_fit v (vars_at s + list_size v) s.vars parts.1);
      vars_fit = vars_fit v (vars_at s + list_size v) s.vars placed long stand.vars;
      enough = omega (arith, taken, length-append globals others);
      all_ids = ids_taken v (vars_at s + list_size v) s.vars placed long ∙ sym (length-ids_of_vars s.vars);
    }

    gatts_are : map (attr_by bytes) (take (globals_by (globals ++ others) rows) (globals ++ others)) ≡ s.gatts
    gatts_are =
        ap (map (attr_by bytes)) (first_part (globals_by (globals ++ others) rows) globals others (sym count_is))
        ∙ attrs_are v (gatts_at s + list_size v) s.gatts typed.gatts parts.0

    all_vars_are : vars_by bytes (drop (globals_by (globals ++ others) rows) (globals ++ others)) (ids_of_vars s.vars) rows ≡ s.vars
    all_vars_are =
        ap (λ (more : List AttrRow). vars_by bytes more (ids_of_vars s.vars) rows) (second_part (globals_by (globals ++ others) rows) globals others (sym count_is))
        ∙ vars_are v (vars_at s + list_size v) s.vars placed long typed.vars stand.vars parts.1

    pub described_again : (w : Version) → schema_by w bytes (all_dim_rows s) (all_attr_rows s) rows (ids_of_vars s.vars) ≡ with_count (with_version s w) 0
    described_again w =
        ap₂ (λ (ds : List Dim) (more : List Attr). schema_with w ds more (vars_by bytes (drop (globals_by (globals ++ others) rows) (globals ++ others)) (ids_of_vars s.vars) rows))
        (dims_are v (head_size v + list_size v) s.dims stand.dims) gatts_are
        ∙ ap (λ (xs : List Var). schema_with w s.dims s.gatts xs) all_vars_are
