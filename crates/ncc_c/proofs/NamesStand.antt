-- The names and values of a header stand where the rows say, whatever bytes its padding has.
use Rattle.std.proofs.Common.{◌≡◌, ℕ, ◌+◌, List, [], ◌∷◌, ◌++◌, length, refl, sym, ap, subst, ◌∙◌, append_assoc, length-append, arith}
use Rattle.std.specs.Prelude.{zip}
use Rattle.std.specs.List.{flat_map}
use Rattle.ncc_values.specs.BigEndian.{length-big_endian}
use Rattle.ncc_values.specs.Values.{type_of, count_of, bytes_of}
use Rattle.ncc_values.specs.Version.{byte_of, count_width_of}
use Rattle.ncc_values.specs.XType.{code_of}
use Rattle.ncc_values.specs.declared.version.Version.{Version}
use Rattle.ncc_schema.specs.declared.schema.Attr.{Attr}
use Rattle.ncc_schema.specs.declared.schema.Dim.{Dim}
use Rattle.ncc_schema.specs.declared.schema.Schema.{Schema}
use Rattle.ncc_schema.specs.declared.schema.Var.{Var}
use Rattle.ncc_schema.specs.Schema.{Place}
use Rattle.ncc_schema.specs.Header as spelled
use Rattle.ncc_schema.specs.Header.{IsHeader, canon_attr, canon_dim, canon_name, canon_list, canon_var, numrecs_word, nc_attribute, nc_dimension, nc_variable}
use Rattle.ncc_schema.specs.Names.{StandsAt, attrs_in, canon_unplaced, gatts_at, head_size, list_size, vars_at}
use Rattle.ncc_schema.proofs.CanonicalLength.{head_long, name_long, dim_long, attr_long, dimids_long, attrs_long, var_long, list_long}
use Rattle.ncc_schema.proofs.Sizes.{length-canon_head, length-canon_var}
use Rattle.ncc_layout.specs.declared.placed_var.PlacedVar.{PlacedVar}
use Rattle.ncc_c.specs.Rows.{AllStand, AttrsStand, DimsStand, VarsStand, attr_rows, attrs_of_vars, dim_rows, var_rows}
use Rattle.ncc_c.specs.declared.rows.AttrRow.{AttrRow}

moved : (bytes piece : List ℕ) (m n : ℕ) → m ≡ n → StandsAt bytes piece m → StandsAt bytes piece n
moved bytes piece m n e s = subst (λ (at : ℕ). StandsAt bytes piece at) e s

module _ (bytes : List ℕ) where
  -- the first part of what stands somewhere, and what is after it
  first_of : (b x y : List ℕ) (at : ℕ) → b ≡ x ++ y → StandsAt bytes b at → StandsAt bytes x at
  first_of b x y at is t = record {
    front = t.front;
    rest = y ++ t.rest;
    joined = t.joined ∙ ap (λ (z : List ℕ). t.front ++ (z ++ t.rest)) is ∙ ap (λ (z : List ℕ). t.front ++ z) (append_assoc x y t.rest);
    long = t.long;
  }

  rest_of : (b x y : List ℕ) (at next : ℕ) → at + length x ≡ next → b ≡ x ++ y → StandsAt bytes b at → StandsAt bytes y next
  rest_of b x y at next there is t = record {
    front = t.front ++ x;
    rest = t.rest;
    joined = t.joined ∙ ap (λ (z : List ℕ). t.front ++ (z ++ t.rest)) is ∙ ap (λ (z : List ℕ). t.front ++ z) (append_assoc x y t.rest) ∙ sym (append_assoc t.front x (y ++ t.rest));
    long = omega (arith, length-append t.front x, t.long, there);
  }

  same_bytes : (x y : List ℕ) (at : ℕ) → x ≡ y → StandsAt bytes x at → StandsAt bytes y at
  same_bytes x y at is t = subst (λ (z : List ℕ). StandsAt bytes z at) is t

  -- a name, after its length
  name_stands : (v : Version) (n b : List ℕ) (at : ℕ) → spelled.name v n b → StandsAt bytes b at → StandsAt bytes n (at + count_width_of v)
  name_stands v n b at s t =
      let width : length s.0 ≡ count_width_of v = ap length s.3 ∙ length-big_endian (count_width_of v) (length n) in
      let inner = rest_of b s.0 s.1 at (at + count_width_of v) (omega (arith, width)) s.2 t in
      same_bytes s.4.0 n (at + count_width_of v) s.4.3 (first_of s.1 s.4.0 s.4.1 (at + count_width_of v) s.4.2 inner)

  dims_stand : (v : Version) (dims : List Dim) (b : List ℕ) (at : ℕ) → spelled.each (spelled.dim v) dims b → StandsAt bytes b at → DimsStand bytes dims (dim_rows v at dims)
  dims_stand v [] b at s t = tt
  dims_stand v (d ∷ dims) b at s t =
      let here = first_of b s.0 s.1 at s.2 t in
      let name = first_of s.0 s.3.0 s.3.1 at s.3.2 here in
      let next : at + length s.0 ≡ at + length (canon_dim v d) = ap (λ (n : ℕ). at + n) (dim_long v d s.0 s.3) in (
        name_stands v d.name s.3.0 at s.3.3 name,
        dims_stand v dims s.1 (at + length (canon_dim v d)) s.4 (rest_of b s.0 s.1 at (at + length (canon_dim v d)) next s.2 t),
      )

  -- the values of an attribute, after its name, its type and their number
  values_stand : (v : Version) (a : Attr) (b : List ℕ) (at : ℕ) → spelled.attr v a b → StandsAt bytes b at
      → StandsAt bytes (bytes_of a.values) (at + length (canon_name v a.name) + (4 + count_width_of v))
  values_stand v a b at s t =
      let name = name_long v a.name s.0 s.3 in
      let code : length s.4.0 ≡ 4 = ap length s.4.3 ∙ length-big_endian 4 (code_of (type_of a.values)) in
      let number : length s.4.4.0 ≡ count_width_of v = ap length s.4.4.3 ∙ length-big_endian (count_width_of v) (count_of a.values) in
      let one = rest_of b s.0 s.1 at (at + length s.0) refl s.2 t in
      let two = rest_of s.1 s.4.0 s.4.1 (at + length s.0) (at + length s.0 + length s.4.0) refl s.4.2 one in
      let three = rest_of s.4.1 s.4.4.0 s.4.4.1 (at + length s.0 + length s.4.0) (at + length (canon_name v a.name) + (4 + count_width_of v)) (omega (arith, name, code, number)) s.4.4.2 two in
      same_bytes s.4.4.4.0 (bytes_of a.values) _ s.4.4.4.3 (first_of s.4.4.1 s.4.4.4.0 s.4.4.4.1 _ s.4.4.4.2 three)

  attrs_stand : (v : Version) (attrs : List Attr) (b : List ℕ) (at : ℕ) → spelled.each (spelled.attr v) attrs b → StandsAt bytes b at → AttrsStand bytes attrs (attr_rows v at attrs)
  attrs_stand v [] b at s t = tt
  attrs_stand v (a ∷ attrs) b at s t =
      let here = first_of b s.0 s.1 at s.2 t in
      let name = first_of s.0 s.3.0 s.3.1 at s.3.2 here in
      let next : at + length s.0 ≡ at + length (canon_attr v a) = ap (λ (n : ℕ). at + n) (attr_long v a s.0 s.3) in (
        name_stands v a.name s.3.0 at s.3.3 name,
        values_stand v a s.0 at s.3 here,
        attrs_stand v attrs s.1 (at + length (canon_attr v a)) s.4 (rest_of b s.0 s.1 at (at + length (canon_attr v a)) next s.2 t),
      )

  -- the items of a list, after its tag and their number
  items_stand : {A : Type 0} (v : Version) (tag : ℕ) (item : A → spelled.Language) (items : List A) (b : List ℕ) (at : ℕ) → spelled.list v tag item items b → StandsAt bytes b at
      → (c : List ℕ) × spelled.each item items c × StandsAt bytes c (at + list_size v)
  items_stand v tag item items b at s t =
      let head = head_long v tag (length items) s.0 s.3 ∙ length-canon_head v tag (length items) in
      (s.1, s.4, rest_of b s.0 s.1 at (at + list_size v) (ap (λ (n : ℕ). at + n) head) s.2 t)

  -- the attributes of a variable
  in_var : (v : Version) (x : Var) (p : Place) (b : List ℕ) (at : ℕ) → spelled.var v (x, p) b → StandsAt bytes b at → AttrsStand bytes x.attrs (attr_rows v (at + attrs_in v x) x.attrs)
  in_var v x p b at s t =
      let name = name_long v x.name s.0 s.3 in
      let ids = dimids_long v x.dims s.4.0 s.4.3 in
      let one = rest_of b s.0 s.1 at (at + length s.0) refl s.2 t in
      let two = rest_of s.1 s.4.0 s.4.1 (at + length s.0) (at + length s.0 + length s.4.0) refl s.4.2 one in
      let list = first_of s.4.1 s.4.4.0 s.4.4.1 (at + length s.0 + length s.4.0) s.4.4.2 two in
      let items = items_stand v nc_attribute (spelled.attr v) x.attrs s.4.4.0 (at + length s.0 + length s.4.0) s.4.4.3 list in
      attrs_stand v x.attrs items.0 (at + attrs_in v x) items.1 (moved bytes items.0 _ (at + attrs_in v x) (omega (arith, name, ids)) items.2)

  var_size : (v : Version) (x : Var) (p : Place) (b : List ℕ) → spelled.var v (x, p) b → length b ≡ length (canon_unplaced v x)
  var_size v x p b s = var_long v (x, p) b s ∙ length-canon_var v x p ∙ sym (length-canon_var v x _)

  vars_stand : (v : Version) (vars : List Var) (places : List Place) (placed : List PlacedVar) (b : List ℕ) (at : ℕ) → length places ≡ length vars → length placed ≡ length vars
      → spelled.each (spelled.var v) (zip vars places) b → StandsAt bytes b at → VarsStand bytes vars (var_rows v at vars placed)
  vars_stand v [] places placed b at e f s t = tt
  vars_stand v (x ∷ vars) [] placed b at e f s t = absurd (omega (arith, e))
  vars_stand v (x ∷ vars) (p ∷ places) [] b at e f s t = absurd (omega (arith, f))
  vars_stand v (x ∷ vars) (p ∷ places) (q ∷ placed) b at e f s t =
      let here = first_of b s.0 s.1 at s.2 t in
      let name = first_of s.0 s.3.0 s.3.1 at s.3.2 here in
      let next : at + length s.0 ≡ at + length (canon_unplaced v x) = ap (λ (n : ℕ). at + n) (var_size v x p s.0 s.3) in (
        name_stands v x.name s.3.0 at s.3.3 name,
        vars_stand v vars places placed s.1 (at + length (canon_unplaced v x)) (omega (arith, e)) (omega (arith, f)) s.4 (rest_of b s.0 s.1 at (at + length (canon_unplaced v x)) next s.2 t),
      )

  attrs_joined : (xs ys : List Attr) (rs qs : List AttrRow) → AttrsStand bytes xs rs → AttrsStand bytes ys qs → AttrsStand bytes (xs ++ ys) (rs ++ qs)
  attrs_joined [] ys [] qs a b = b
  attrs_joined [] ys (r ∷ rs) qs a b = absurd a
  attrs_joined (x ∷ xs) ys [] qs a b = absurd a
  attrs_joined (x ∷ xs) ys (r ∷ rs) qs a b = (a.0, a.1, attrs_joined xs ys rs qs a.2 b)

  attrs_of_vars_stand : (v : Version) (vars : List Var) (places : List Place) (b : List ℕ) (at : ℕ) → length places ≡ length vars → spelled.each (spelled.var v) (zip vars places) b → StandsAt bytes b at
      → AttrsStand bytes (flat_map (λ x. x.attrs) vars) (attrs_of_vars v at vars)
  attrs_of_vars_stand v [] places b at e s t = tt
  attrs_of_vars_stand v (x ∷ vars) [] b at e s t = absurd (omega (arith, e))
  attrs_of_vars_stand v (x ∷ vars) (p ∷ places) b at e s t =
      let here = first_of b s.0 s.1 at s.2 t in
      let next : at + length s.0 ≡ at + length (canon_unplaced v x) = ap (λ (n : ℕ). at + n) (var_size v x p s.0 s.3) in
      attrs_joined x.attrs (flat_map (λ x. x.attrs) vars) (attr_rows v (at + attrs_in v x) x.attrs) (attrs_of_vars v (at + length (canon_unplaced v x)) vars) (in_var v x p s.0 at s.3 here)
      (attrs_of_vars_stand v vars places s.1 (at + length (canon_unplaced v x)) (omega (arith, e)) s.4 (rest_of b s.0 s.1 at (at + length (canon_unplaced v x)) next s.2 t))

-- all names and values of a header
pub all_stand : (s : Schema) (places : List Place) (front bytes : List ℕ) (placed : List PlacedVar) → IsHeader s places front → length placed ≡ length s.vars → StandsAt bytes front 0 → AllStand bytes s placed
all_stand s places front bytes placed h long t =
    let v = s.version in
    let sp = h.spelled in
    let magic : length sp.0 ≡ 3 = ap length sp.3 in
    let version : length sp.4.0 ≡ 1 = ap length sp.4.3 ∙ length-big_endian 1 (byte_of v) in
    let count : length sp.4.4.0 ≡ count_width_of v = ap length sp.4.4.3 ∙ length-big_endian (count_width_of v) (numrecs_word v s.count) in
    let one = rest_of bytes front sp.0 sp.1 0 (length sp.0) (omega arith) sp.2 t in
    let two = rest_of bytes sp.1 sp.4.0 sp.4.1 (length sp.0) (length sp.0 + length sp.4.0) refl sp.4.2 one in
    let lists = rest_of bytes sp.4.1 sp.4.4.0 sp.4.4.1 (length sp.0 + length sp.4.0) (head_size v) (omega (arith, magic, version, count)) sp.4.4.2 two in
    let l = sp.4.4.4 in
    let dims = first_of bytes sp.4.4.1 l.0 l.1 (head_size v) l.2 lists in
    let dims_long = list_long v nc_dimension (spelled.dim v) (canon_dim v) (dim_long v) s.dims l.0 l.3 in
    let after = rest_of bytes sp.4.4.1 l.0 l.1 (head_size v) (gatts_at s) (ap (λ (n : ℕ). head_size v + n) dims_long) l.2 lists in
    let gatts = first_of bytes l.1 l.4.0 l.4.1 (gatts_at s) l.4.2 after in
    let vars = rest_of bytes l.1 l.4.0 l.4.1 (gatts_at s) (vars_at s) (ap (λ (n : ℕ). gatts_at s + n) (attrs_long v s.gatts l.4.0 l.4.3)) l.4.2 after in
    let of_dims = items_stand bytes v nc_dimension (spelled.dim v) s.dims l.0 (head_size v) l.3 dims in
    let of_gatts = items_stand bytes v nc_attribute (spelled.attr v) s.gatts l.4.0 (gatts_at s) l.4.3 gatts in
    let of_vars = items_stand bytes v nc_variable (spelled.var v) (zip s.vars places) l.4.1 (vars_at s) l.4.4 vars in
    record {
      dims = dims_stand bytes v s.dims of_dims.0 (head_size v + list_size v) of_dims.1 of_dims.2;
      attrs = attrs_joined bytes s.gatts (flat_map (λ x. x.attrs) s.vars) (attr_rows v (gatts_at s + list_size v) s.gatts) (attrs_of_vars v (vars_at s + list_size v) s.vars)
          (attrs_stand bytes v s.gatts of_gatts.0 (gatts_at s + list_size v) of_gatts.1 of_gatts.2)
          (attrs_of_vars_stand bytes v s.vars places of_vars.0 (vars_at s + list_size v) h.legal.number of_vars.1 of_vars.2);
      vars = vars_stand bytes v s.vars places placed of_vars.0 (vars_at s + list_size v) h.legal.number long of_vars.1 of_vars.2;
    }
