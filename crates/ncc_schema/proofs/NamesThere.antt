-- The names of a canonical header stand where they are told to.
use Rattle.std.proofs.Common.{◌≡◌, ℕ, zero, suc, ◌+◌, ◌<◌, List, [], ◌∷◌, ◌++◌, length, take, drop, refl, sym, ap, subst, ◌∙◌, append_assoc, append-nil, length-append, arith}
use Rattle.std.specs.List.{flat_map}
use Rattle.std.specs.Prelude.{zip}
use Rattle.std.proofs.lemmas.Grind.{flat_map-append}
use Rattle.std.proofs.lemmas.List.{take-append-drop}
use Rattle.ncc_values.specs.Numbers.{big_endian}
use Rattle.ncc_values.specs.BigEndian.{length-big_endian}
use Rattle.ncc_values.specs.Version.{byte_of, count_width_of, offset_width_of}
use Rattle.ncc_values.specs.XType.{code_of}
use Rattle.ncc_values.specs.declared.version.Version.{Version}
use Rattle.ncc_schema.specs.declared.names.NameOf.{NameOf}
use Rattle.ncc_schema.specs.declared.names.NameOf.TheVariants as of
use Rattle.ncc_schema.specs.declared.schema.Attr.{Attr}
use Rattle.ncc_schema.specs.declared.schema.Var.{Var}
use Rattle.ncc_schema.specs.declared.schema.Schema.{Schema}
use Rattle.ncc_schema.specs.Schema.{Place, Legal}
use Rattle.ncc_schema.specs.Header.{numrecs_word, canon_name, canon_head, canon_list, canon_dim, canon_attr, canon_dimids, canon_var, canon}
use Rattle.ncc_schema.specs.Names.{first_dim, first_attr, first_var, first_attrs, HasName, name_of, head_size, list_size, before, gatts_at, vars_at, attrs_in, attr_in, name_at, StandsAt}
use Rattle.ncc_schema.proofs.Sizes.{length-canon_head}

-- ---- parts of parts

at_front : (piece rest : List ℕ) → StandsAt (piece ++ rest) piece 0
at_front piece rest = record { front = []; rest = rest; joined = refl; long = refl }

behind : (a b piece : List ℕ) (at : ℕ) → StandsAt b piece at → StandsAt (a ++ b) piece (length a + at)
behind a b piece at s = record {
  front = a ++ s.front;
  rest = s.rest;
  joined = ap (λ (z : List ℕ). a ++ z) s.joined ∙ sym (append_assoc a s.front (piece ++ s.rest));
  long = omega (arith, length-append a s.front, s.long);
}

-- a piece of a piece
pub inside : (bytes whole piece : List ℕ) (at more : ℕ) → StandsAt bytes whole at → StandsAt whole piece more → StandsAt bytes piece (at + more)
inside bytes whole piece at more s t = record {
  front = s.front ++ t.front;
  rest = t.rest ++ s.rest;
  joined = s.joined ∙ ap (λ (z : List ℕ). s.front ++ (z ++ s.rest)) t.joined
      ∙ ap (λ (z : List ℕ). s.front ++ z) (append_assoc t.front (piece ++ t.rest) s.rest ∙ ap (λ (z : List ℕ). t.front ++ z) (append_assoc piece t.rest s.rest))
      ∙ sym (append_assoc s.front t.front (piece ++ (t.rest ++ s.rest)));
  long = omega (arith, length-append s.front t.front, s.long, t.long);
}

pub moved : (bytes piece : List ℕ) (m n : ℕ) → m ≡ n → StandsAt bytes piece m → StandsAt bytes piece n
moved bytes piece m n e s = subst (λ (at : ℕ). StandsAt bytes piece at) e s

-- ---- items of lists

-- there is an item at each index below the length
abbrev At : {A : Type 0} → List A → ℕ → Type 0
At {A = A} items i = (x : A) × (more : List A) × (drop i items ≡ x ∷ more)

item_there : {A : Type 0} (items : List A) (i : ℕ) → i < length items → At items i
item_there [] i h = absurd (omega (arith, h))
item_there (x ∷ items) zero h = (x, items, refl)
item_there (x ∷ items) (suc i) h = item_there items i (omega (arith, h))

item_at : {A : Type 0} (item : A → List ℕ) (items : List A) (i : ℕ) (x : A) (more : List A) → drop i items ≡ x ∷ more → StandsAt (flat_map item items) (item x) (before item i items)
item_at item items i x more e = record {
  front = flat_map item (take i items);
  rest = flat_map item more;
  joined = ap (flat_map item) (sym (take-append-drop i items)) ∙ flat_map-append item (take i items) (drop i items) ∙ ap (λ xs. flat_map item (take i items) ++ flat_map item xs) e;
  long = refl;
}

in_list : {A : Type 0} (v : Version) (tag : ℕ) (item : A → List ℕ) (items : List A) (i : ℕ) (x : A) (more : List A) → drop i items ≡ x ∷ more → StandsAt (canon_list v tag item items) (item x) (list_size v + before item i items)
in_list v tag item items i x more e =
    moved (canon_list v tag item items) (item x) (length (canon_head v tag (length items)) + before item i items) (list_size v + before item i items) (omega (arith, length-canon_head v tag (length items)))
    (behind (canon_head v tag (length items)) (flat_map item items) (item x) (before item i items) (item_at item items i x more e))

-- a variable, and it with its place
abbrev PlacedAt : List Var → List Place → ℕ → Type 0
PlacedAt vars places i = (x : Var) × (p : Place) × (others : List Var) × (more : List (Var × Place)) × (drop i vars ≡ x ∷ others) × (drop i (zip vars places) ≡ (x, p) ∷ more)

var_there : (vars : List Var) (places : List Place) (i : ℕ) → length places ≡ length vars → i < length vars → PlacedAt vars places i
var_there [] places i e h = absurd (omega (arith, h))
var_there (x ∷ vars) [] i e h = absurd (omega (arith, e))
var_there (x ∷ vars) (p ∷ places) zero e h = (x, p, vars, zip vars places, refl, refl)
var_there (x ∷ vars) (p ∷ places) (suc i) e h = var_there vars places i (omega (arith, e)) (omega (arith, h))

-- ---- the lists of the header

module _ (s : Schema) (places : List Place) where
  abbrev count : List ℕ
  count = big_endian (count_width_of s.version) (numrecs_word s.version s.count)

  abbrev dims : List ℕ
  dims = canon_list s.version 10 (canon_dim s.version) s.dims

  abbrev gatts : List ℕ
  gatts = canon_list s.version 12 (canon_attr s.version) s.gatts

  abbrev vars : List ℕ
  vars = canon_list s.version 11 (canon_var s.version) (zip s.vars places)

  -- behind letters, version and number of records
  in_lists : (piece : List ℕ) (at : ℕ) → StandsAt (dims ++ (gatts ++ vars)) piece at → StandsAt (canon s places) piece (head_size s.version + at)
  in_lists piece at t =
      let lists = dims ++ (gatts ++ vars) in
      let byte = big_endian 1 (byte_of s.version) in
      moved (canon s places) piece (3 + (length byte + (length count + at))) (head_size s.version + at) (omega (arith, length-big_endian 1 (byte_of s.version), length-big_endian (count_width_of s.version) (numrecs_word s.version s.count)))
      (behind (0x43 ∷ 0x44 ∷ 0x46 ∷ []) (byte ++ (count ++ lists)) piece (length byte + (length count + at)) (behind byte (count ++ lists) piece (length count + at) (behind count lists piece at t)))

  dims_there : StandsAt (canon s places) dims (head_size s.version)
  dims_there = moved (canon s places) dims (head_size s.version + 0) (head_size s.version) (omega arith) (in_lists dims 0 (at_front dims (gatts ++ vars)))

  gatts_there : StandsAt (canon s places) gatts (gatts_at s)
  gatts_there =
      moved (canon s places) gatts (head_size s.version + (length dims + 0)) (gatts_at s) (omega arith) (in_lists gatts (length dims + 0) (behind dims (gatts ++ vars) gatts 0 (at_front gatts vars)))

  pub vars_there : StandsAt (canon s places) vars (vars_at s)
  vars_there =
      let whole : StandsAt vars vars 0 = record { front = []; rest = []; joined = sym (append-nil vars); long = refl } in
      moved (canon s places) vars (head_size s.version + (length dims + (length gatts + 0))) (vars_at s) (omega arith)
      (in_lists vars (length dims + (length gatts + 0)) (behind dims (gatts ++ vars) vars (length gatts + 0) (behind gatts vars vars 0 whole)))

-- ---- names

-- an item of a list that stands somewhere
pub in_item : {A : Type 0} (bytes : List ℕ) (v : Version) (tag : ℕ) (item : A → List ℕ) (items : List A) (i : ℕ) (x : A) (more : List A) (at : ℕ) → drop i items ≡ x ∷ more → StandsAt bytes (canon_list v tag item items) at
    → StandsAt bytes (item x) (at + list_size v + before item i items)
in_item bytes v tag item items i x more at e t =
    moved bytes (item x) (at + (list_size v + before item i items)) (at + list_size v + before item i items) (omega arith)
    (inside bytes (canon_list v tag item items) (item x) at (list_size v + before item i items) t (in_list v tag item items i x more e))

-- what it begins with
begins_it : (bytes name rest : List ℕ) (at : ℕ) → StandsAt bytes (name ++ rest) at → StandsAt bytes name at
begins_it bytes name rest at t = moved bytes name (at + 0) at (omega arith) (inside bytes (name ++ rest) name at 0 t (at_front name rest))

-- an attribute of a variable
in_var : (v : Version) (x : Var) (p : Place) (j : ℕ) (a : Attr) (more : List Attr) → drop j x.attrs ≡ a ∷ more → StandsAt (canon_var v (x, p)) (canon_attr v a) (attrs_in v x + before (canon_attr v) j x.attrs)
in_var v x p j a more e =
    let name = canon_name v x.name in
    let ids = canon_dimids v x.dims in
    let attrs = canon_list v 12 (canon_attr v) x.attrs in
    let rest = big_endian 4 (code_of x.xtype) ++ (big_endian (count_width_of v) p.vsize ++ big_endian (offset_width_of v) p.begin) in
    moved (canon_var v (x, p)) (canon_attr v a) (length name + (length ids + (0 + list_size v + before (canon_attr v) j x.attrs))) (attrs_in v x + before (canon_attr v) j x.attrs) (omega arith)
    (behind name (ids ++ (attrs ++ rest)) (canon_attr v a) (length ids + (0 + list_size v + before (canon_attr v) j x.attrs))
    (behind ids (attrs ++ rest) (canon_attr v a) (0 + list_size v + before (canon_attr v) j x.attrs) (in_item (attrs ++ rest) v 12 (canon_attr v) x.attrs j a more 0 e (at_front attrs rest))))

pub name_is_there : (s : Schema) (places : List Place) (of : NameOf) → Legal s places → HasName s of → StandsAt (canon s places) (canon_name s.version (name_of s of)) (name_at s places of)
name_is_there s places (of.Dim i) legal h =
    let v = s.version in
    let t = item_there s.dims i h in
    let at = name_at s places (of.Dim i) in
    subst (λ xs. StandsAt (canon s places) (canon_name v (first_dim xs)) at) (sym t.2)
    (begins_it (canon s places) (canon_name v t.0.name) (big_endian (count_width_of v) t.0.length) at (in_item (canon s places) v 10 (canon_dim v) s.dims i t.0 t.1 (head_size v) t.2 (dims_there s places)))
name_is_there s places (of.Global i) legal h =
    let v = s.version in
    let t = item_there s.gatts i h in
    let at = name_at s places (of.Global i) in
    subst (λ xs. StandsAt (canon s places) (canon_name v (first_attr xs)) at) (sym t.2)
    (begins_it (canon s places) (canon_name v t.0.name) _ at (in_item (canon s places) v 12 (canon_attr v) s.gatts i t.0 t.1 (gatts_at s) t.2 (gatts_there s places)))
name_is_there s places (of.Var i) legal h =
    let v = s.version in
    let t = var_there s.vars places i legal.number h in
    let at = name_at s places (of.Var i) in
    subst (λ xs. StandsAt (canon s places) (canon_name v (first_var xs)) at) (sym t.4)
    (begins_it (canon s places) (canon_name v t.0.name) _ at (in_item (canon s places) v 11 (canon_var v) (zip s.vars places) i (t.0, t.1) t.3 (vars_at s) t.5 (vars_there s places)))
name_is_there s places (of.Attr i j) legal h =
    let v = s.version in
    let t = var_there s.vars places i legal.number h.0 in
    let inner : j < length t.0.attrs = subst (λ xs. j < length (first_attrs xs)) t.4 h.1 in
    let u = item_there t.0.attrs j inner in
    let at = vars_at s + list_size v + before (canon_var v) i (zip s.vars places) in
    let in_it = in_item (canon s places) v 11 (canon_var v) (zip s.vars places) i (t.0, t.1) t.3 (vars_at s) t.5 (vars_there s places) in
    let more = attrs_in v t.0 + before (canon_attr v) j t.0.attrs in
    let name : StandsAt (canon s places) (canon_name v u.0.name) (at + more) = begins_it (canon s places) (canon_name v u.0.name) _ (at + more) (inside (canon s places) (canon_var v (t.0, t.1)) (canon_attr v u.0) at more in_it (in_var v t.0 t.1 j u.0 u.1 u.2)) in
    let named = subst (λ xs. StandsAt (canon s places) (canon_name v (first_attr xs)) (at + more)) (sym u.2) name in
    subst (λ xs. StandsAt (canon s places) (canon_name v (first_attr (drop j (first_attrs xs)))) (at + attr_in v j xs)) (sym t.4) named
