-- A header has a byte and more for each attribute and each dimension of a variable.
use Rattle.std.proofs.Common.{◌≡◌, ◌+◌, ◌^◌, ◌<◌, ◌≤◌, List, [], ◌∷◌, length, arith}
use Rattle.std.specs.List.{flat_map}
use Rattle.std.proofs.lemmas.List.{length-append}
use Rattle.std.proofs.lemmas.Nat.{mul-le}
use Rattle.ncc_values.specs.Version.{count_width_of}
use Rattle.ncc_values.specs.declared.version.Version.{Version}
use Rattle.ncc_values.specs.declared.version.Version.TheVariants.{V1, V2, V5}
use Rattle.ncc_schema.specs.declared.schema.Attr.{Attr}
use Rattle.ncc_schema.specs.declared.schema.Schema.{Schema}
use Rattle.ncc_schema.specs.declared.schema.Var.{Var}
use Rattle.ncc_schema.specs.Schema.{Place}
use Rattle.ncc_schema.specs.Header.{canon, canon_attr, canon_dim, nc_attribute, nc_dimension}
use Rattle.ncc_schema.specs.Names.{canon_unplaced, gatts_at, head_size, list_size, vars_at, no_place}
use Rattle.ncc_schema.proofs.Sizes.{length-canon, length-canon_attr, length-canon_dimids, length-canon_list, length-canon_var}
use Rattle.ncc_c.specs.Rows.{attr_count, id_count}

width_some : (v : Version) → 1 ≤ count_width_of v
width_some V1 = omega arith
width_some V2 = omega arith
width_some V5 = omega arith

attrs_below : (v : Version) (attrs : List Attr) → length attrs ≤ length (flat_map (canon_attr v) attrs)
attrs_below v [] = omega arith
attrs_below v (a ∷ attrs) = omega (arith, length-append (canon_attr v a) (flat_map (canon_attr v) attrs), length-canon_attr v a, attrs_below v attrs)

module _ (v : Version) (x : Var) where
  attrs_in_var : length x.attrs ≤ length (canon_unplaced v x)
  attrs_in_var = omega (arith, attrs_below v x.attrs, length-canon_var v x no_place)

  ids_in_var : length x.dims ≤ length (canon_unplaced v x)
  ids_in_var =
      omega (arith, length-canon_dimids v x.dims, mul-le 1 (1 + length x.dims) (count_width_of v) (1 + length x.dims) (width_some v) (omega arith), length-canon_var v x no_place)

pub attr_count_below : (v : Version) (vars : List Var) → attr_count vars ≤ length (flat_map (canon_unplaced v) vars)
attr_count_below v [] = omega arith
attr_count_below v (x ∷ vars) =
    let more : length (flat_map (canon_unplaced v) (x ∷ vars)) ≡ length (canon_unplaced v x) + length (flat_map (canon_unplaced v) vars) = length-append (canon_unplaced v x) (flat_map (canon_unplaced v) vars) in
    omega (arith, more, attrs_in_var v x, attr_count_below v vars)

pub id_count_below : (v : Version) (vars : List Var) → id_count vars ≤ length (flat_map (canon_unplaced v) vars)
id_count_below v [] = omega arith
id_count_below v (x ∷ vars) =
    let more : length (flat_map (canon_unplaced v) (x ∷ vars)) ≡ length (canon_unplaced v x) + length (flat_map (canon_unplaced v) vars) = length-append (canon_unplaced v x) (flat_map (canon_unplaced v) vars) in
    omega (arith, more, ids_in_var v x, id_count_below v vars)

-- the parts of a header whose length fits
pub record Fits (s : Schema) : Type 0 where
  pub dims : head_size s.version + list_size s.version + length (flat_map (canon_dim s.version) s.dims) < 2 ^ 64
  pub gatts : gatts_at s + list_size s.version + length (flat_map (canon_attr s.version) s.gatts) < 2 ^ 64
  pub vars : vars_at s + list_size s.version + length (flat_map (canon_unplaced s.version) s.vars) < 2 ^ 64
  pub attr_count : length s.gatts + attr_count s.vars < 2 ^ 64
  pub id_count : id_count s.vars < 2 ^ 64

pub fits : (s : Schema) (places : List Place) → length places ≡ length s.vars → length (canon s places) < 2 ^ 64 → Fits s
fits s places e small =
    let v = s.version in
    let whole = length-canon s places e in
    let dims = length-canon_list v nc_dimension (canon_dim v) s.dims in
    let gatts = length-canon_list v nc_attribute (canon_attr v) s.gatts in
    record {
      dims = omega (arith, whole, small, dims);
      gatts = omega (arith, whole, small, gatts);
      vars = omega (arith, whole, small);
      attr_count = omega (arith, whole, small, gatts, attrs_below v s.gatts, attr_count_below v s.vars);
      id_count = omega (arith, whole, small, id_count_below v s.vars);
    }
