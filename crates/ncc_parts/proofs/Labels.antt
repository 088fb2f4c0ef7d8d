-- Each byte of an item is in the part with that item's label.
use Rattle.std.proofs.Common.{◌≡◌, ℕ, zero, suc, ◌+◌, ◌-◌, ◌<◌, ◌≤◌, ltb, false, List, [], ◌∷◌, ◌++◌, length, take, drop, Some, refl, ap, ◌∙◌, append-nil, append_assoc, length-append, arith, if◌then◌else◌}
use Rattle.std.specs.List.{flat_map}
use Rattle.std.proofs.lemmas.Bool.{lt-ltb, le-ltb}
use Rattle.ncc_values.specs.BigEndian.{length-big_endian}
use Rattle.ncc_values.specs.Numbers.{big_endian}
use Rattle.ncc_values.specs.Version.{byte_of, count_width_of, offset_width_of}
use Rattle.ncc_values.specs.XType.{code_of}
use Rattle.ncc_values.specs.declared.version.Version.{Version}
use Rattle.ncc_values.specs.declared.version.Version.TheVariants.{V1, V2, V5}
use Rattle.ncc_schema.specs.declared.names.NameOf.{NameOf}
use Rattle.ncc_schema.specs.declared.names.NameOf.TheVariants as of
use Rattle.ncc_schema.specs.declared.schema.Attr.{Attr}
use Rattle.ncc_schema.specs.declared.schema.Dim.{Dim}
use Rattle.ncc_schema.specs.declared.schema.Schema.{Schema}
use Rattle.ncc_schema.specs.declared.schema.Var.{Var}
use Rattle.ncc_schema.specs.Schema.{Place}
use Rattle.ncc_schema.specs.Header.{nc_dimension, nc_attribute, nc_variable, numrecs_word, canon_name, canon_head, canon_dim, canon_attr, canon_dimids}
use Rattle.ncc_schema.specs.Names.{HasName, attr_in, attrs_in, before, canon_unplaced, first_attrs, list_size, name_at, no_place, var_at}
use Rattle.ncc_schema.proofs.Sizes.{before-placed, length-canon_attr, length-canon_dim, length-canon_head, length-canon_list, length-canon_var}
use Rattle.ncc_header.specs.declared.part.Part.{Part}
use Rattle.ncc_header.specs.declared.part.Part.TheVariants as parts
use Rattle.ncc_parts.specs.Parts.{attrs_from, bytes_named, dims_from, globals_from, magic_bytes, part_at, part_named, parts_of, place_fields, var_parts, vars_from}
use Rattle.ncc_parts.proofs.Spelling.{attrs_spell, dims_spell, globals_spell, spelling, var_spells}

-- ---- one part

pub here : (o : ℕ) (q : Part) (b : List ℕ) (ps : List (Part × List ℕ)) → o < length b → part_at o ((q, b) ∷ ps) ≡ Some q
here o q b ps lt = ap (λ t. if t then Some q else part_at (o - length b) ps) (lt-ltb _ _ lt)

pub past : (o m : ℕ) (q : Part) (b : List ℕ) (ps : List (Part × List ℕ)) → o ≡ length b + m → part_at o ((q, b) ∷ ps) ≡ part_at m ps
past o m q b ps is =
    let no : ltb o (length b) ≡ false = le-ltb _ _ (omega (arith, is)) in
    ap (λ t. if t then Some q else part_at (o - length b) ps) no ∙ ap (λ n. part_at n ps) (omega (arith, is))

pub past_all : (o m : ℕ) (ps qs : List (Part × List ℕ)) → o ≡ length (spelling ps) + m → part_at o (ps ++ qs) ≡ part_at m qs
past_all o m [] qs is = ap (λ n. part_at n qs) (omega (arith, is))
past_all o m (p ∷ ps) qs is =
    past o (length (spelling ps) + m) p.0 p.1 (ps ++ qs) (omega (arith, is, length-append p.1 (spelling ps)))
    ∙ past_all (length (spelling ps) + m) m ps qs refl

-- ---- the items of a list

abbrev listed : {A : Type 0} → (ℕ → Part) → (A → List ℕ) → (number : ℕ) → List A → List (Part × List ℕ)
listed label item n [] = []
listed label item n (a ∷ bs) = (label n, item a) ∷ listed label item (suc n) bs

dims_listed : (v : Version) (n : ℕ) (dims : List Dim) → dims_from v n dims ≡ listed parts.Dim (canon_dim v) n dims
dims_listed v n [] = refl
dims_listed v n (d ∷ dims) = ap (λ ps. (parts.Dim n, canon_dim v d) ∷ ps) (dims_listed v (suc n) dims)

globals_listed : (v : Version) (n : ℕ) (attrs : List Attr) → globals_from v n attrs ≡ listed parts.Global (canon_attr v) n attrs
globals_listed v n [] = refl
globals_listed v n (a ∷ attrs) = ap (λ ps. (parts.Global n, canon_attr v a) ∷ ps) (globals_listed v (suc n) attrs)

attrs_listed : (v : Version) (var n : ℕ) (attrs : List Attr) → attrs_from v var n attrs ≡ listed (parts.Attr var) (canon_attr v) n attrs
attrs_listed v var n [] = refl
attrs_listed v var n (a ∷ attrs) = ap (λ ps. (parts.Attr var n, canon_attr v a) ∷ ps) (attrs_listed v var (suc n) attrs)

-- no items have no bytes
nothing : {A : Type 0} (item : A → List ℕ) (bs : List A) (o : ℕ) → before item 0 bs + o ≡ o
nothing item [] o = omega arith
nothing item (b ∷ bs) o = omega arith

at_item : {A : Type 0} (label : ℕ → Part) (item : A → List ℕ) (n i o : ℕ) (bs : List A) (rest : List (Part × List ℕ)) → o < length (flat_map item (take 1 (drop i bs)))
    → part_at (before item i bs + o) (listed label item n bs ++ rest) ≡ Some (label (n + i))
at_item label item n zero o [] rest lt = absurd (omega (arith, lt))
at_item label item n (suc i) o [] rest lt = absurd (omega (arith, lt))
at_item label item n zero o (a ∷ bs) rest lt =
    ap (λ k. part_at k ((label n, item a) ∷ (listed label item (suc n) bs ++ rest))) (nothing item (a ∷ bs) o)
    ∙ here o (label n) (item a) (listed label item (suc n) bs ++ rest) (omega (arith, lt, ap length (append-nil (item a))))
    ∙ ap (λ k. Some (label k)) (omega arith)
at_item label item n (suc i) o (a ∷ bs) rest lt =
    past (before item (suc i) (a ∷ bs) + o) (before item i bs + o) (label n) (item a) (listed label item (suc n) bs ++ rest) (omega (arith, length-append (item a) (flat_map item (take i bs))))
    ∙ at_item label item (suc n) i o bs rest lt
    ∙ ap (λ k. Some (label k)) (omega arith)

at_item_of_all : {A : Type 0} (label : ℕ → Part) (item : A → List ℕ) (i o : ℕ) (bs : List A) (rest : List (Part × List ℕ)) → o < length (flat_map item (take 1 (drop i bs)))
    → part_at (before item i bs + o) (listed label item 0 bs ++ rest) ≡ Some (label i)
at_item_of_all label item i o bs rest lt = at_item label item 0 i o bs rest lt ∙ ap (λ k. Some (label k)) (omega arith)

-- ---- variables

-- what is behind the parts of the variables before this one
abbrev pub from_var : Version → (number : ℕ) → List Var → List (Part × List ℕ)
from_var v n [] = []
from_var v n (x ∷ vars) = var_parts v n x no_place ++ vars_from v (suc n) vars

to_var : (v : Version) (n i o : ℕ) (vars : List Var) → i < length vars → part_at (before (canon_unplaced v) i vars + o) (vars_from v n vars) ≡ part_at o (from_var v (n + i) (drop i vars))
to_var v n i o [] lt = absurd (omega (arith, lt))
to_var v n zero o (x ∷ vars) lt =
    ap (λ k. part_at k (vars_from v n (x ∷ vars))) (nothing (canon_unplaced v) (x ∷ vars) o)
    ∙ ap (λ (k : ℕ). part_at o (var_parts v k x no_place ++ vars_from v (suc k) vars)) (omega arith)
to_var v n (suc i) o (x ∷ vars) lt =
    past_all (before (canon_unplaced v) (suc i) (x ∷ vars) + o) (before (canon_unplaced v) i vars + o) (var_parts v n x no_place) (vars_from v (suc n) vars)
    (omega (arith, length-append (canon_unplaced v x) (flat_map (canon_unplaced v) (take i vars)), ap length (var_spells v n x no_place)))
    ∙ to_var v (suc n) i o vars (omega (arith, lt))
    ∙ ap (λ k. part_at o (from_var v k (drop i vars))) (omega arith)

pub to_var_of_all : (v : Version) (i o : ℕ) (vars : List Var) → i < length vars → part_at (before (canon_unplaced v) i vars + o) (vars_from v 0 vars) ≡ part_at o (from_var v i (drop i vars))
to_var_of_all v i o vars lt = to_var v 0 i o vars lt ∙ ap (λ k. part_at o (from_var v k (drop i vars))) (omega arith)

-- what is behind a variable's name and dimensions
abbrev pub var_rest : Version → (number : ℕ) → Var → List (Part × List ℕ)
var_rest v n x = (parts.AttrList n, canon_head v nc_attribute (length x.attrs)) ∷ (attrs_from v n 0 x.attrs ++ (parts.Place n, place_fields v x no_place) ∷ [])

-- a variable's name and dimensions
at_var : (v : Version) (k o : ℕ) (vars : List Var) → o < length (flat_map (λ x. canon_name v x.name ++ canon_dimids v x.dims) (take 1 vars)) → part_at o (from_var v k vars) ≡ Some (parts.Var k)
at_var v k o [] lt = absurd (omega (arith, lt))
at_var v k o (x ∷ vars) lt =
    let named = canon_name v x.name ++ canon_dimids v x.dims in
    here o (parts.Var k) named (var_rest v k x ++ vars_from v (suc k) vars) (omega (arith, lt, ap length (append-nil named)))

-- its attributes, as far as its place
pub to_attrs : (v : Version) (k m o : ℕ) (x : Var) (vars : List Var) → o ≡ attrs_in v x + m
    → part_at o (from_var v k (x ∷ vars)) ≡ part_at m (attrs_from v k 0 x.attrs ++ (((parts.Place k, place_fields v x no_place) ∷ []) ++ vars_from v (suc k) vars))
to_attrs v k m o x vars is =
    let attrs = attrs_from v k 0 x.attrs in
    let place = (parts.Place k, place_fields v x no_place) ∷ [] in
    let named = canon_name v x.name ++ canon_dimids v x.dims in
    let head = canon_head v nc_attribute (length x.attrs) in
    past o (list_size v + m) (parts.Var k) named (var_rest v k x ++ vars_from v (suc k) vars) (omega (arith, is, length-append (canon_name v x.name) (canon_dimids v x.dims)))
    ∙ past (list_size v + m) m (parts.AttrList k) head ((attrs ++ place) ++ vars_from v (suc k) vars) (omega (arith, length-canon_head v nc_attribute (length x.attrs)))
    ∙ ap (part_at m) (append_assoc attrs place (vars_from v (suc k) vars))

pub at_attr : (v : Version) (k j o : ℕ) (vars : List Var) → o < length (flat_map (canon_attr v) (take 1 (drop j (first_attrs vars)))) → part_at (attr_in v j vars + o) (from_var v k vars) ≡ Some (parts.Attr k j)
at_attr v k zero o [] lt = absurd (omega (arith, lt))
at_attr v k (suc j) o [] lt = absurd (omega (arith, lt))
at_attr v k j o (x ∷ vars) lt =
    let rest = ((parts.Place k, place_fields v x no_place) ∷ []) ++ vars_from v (suc k) vars in
    to_attrs v k (before (canon_attr v) j x.attrs + o) (attr_in v j (x ∷ vars) + o) x vars (omega arith)
    ∙ ap (λ ps. part_at (before (canon_attr v) j x.attrs + o) (ps ++ rest)) (attrs_listed v k 0 x.attrs)
    ∙ at_item_of_all (parts.Attr k) (canon_attr v) j o x.attrs rest lt

-- the type, the vsize and the begin
length-place_fields : (v : Version) (x : Var) → length (place_fields v x no_place) ≡ 4 + count_width_of v + offset_width_of v
length-place_fields v x =
    let code = big_endian 4 (code_of x.xtype) in
    let size = big_endian (count_width_of v) 0 in
    let begin = big_endian (offset_width_of v) 0 in
    omega (arith, length-append code (size ++ begin), length-append size begin, length-big_endian 4 (code_of x.xtype), length-big_endian (count_width_of v) 0, length-big_endian (offset_width_of v) 0)

pub at_place : (v : Version) (k o m : ℕ) (x : Var) (vars : List Var) → o + m ≡ length (canon_unplaced v x) → 0 < m → m < 5 + count_width_of v + offset_width_of v → part_at o (from_var v k (x ∷ vars)) ≡ Some (parts.Place k)
at_place v k o m x vars is some few =
    let attrs = flat_map (canon_attr v) x.attrs in
    let inside = 4 + count_width_of v + offset_width_of v - m in
    let place = place_fields v x no_place in
    to_attrs v k (length attrs + inside) o x vars (omega (arith, is, few, length-canon_var v x no_place))
    ∙ past_all (length attrs + inside) inside (attrs_from v k 0 x.attrs) (((parts.Place k, place) ∷ []) ++ vars_from v (suc k) vars) (omega (arith, ap length (attrs_spell v k 0 x.attrs)))
    ∙ here inside (parts.Place k) place (vars_from v (suc k) vars) (omega (arith, some, few, length-place_fields v x))

-- a variable that is there, and the bytes of it and of those before it
pub before_next : (v : Version) (i : ℕ) (vars : List Var) → i < length vars
    → (x : Var) × (rest : List Var) × (drop i vars ≡ x ∷ rest) × (before (canon_unplaced v) (suc i) vars ≡ before (canon_unplaced v) i vars + length (canon_unplaced v x))
before_next v i [] lt = absurd (omega (arith, lt))
before_next v zero (x ∷ vars) lt = (x, vars, refl, omega (arith, ap length (append-nil (canon_unplaced v x))))
before_next v (suc i) (x ∷ vars) lt =
    let n = before_next v i vars (omega (arith, lt)) in (
      n.0,
      n.1,
      n.2,
      omega (
        arith,
        n.3,
        length-append (canon_unplaced v x) (flat_map (canon_unplaced v) (take (suc i) vars)),
        length-append (canon_unplaced v x) (flat_map (canon_unplaced v) (take i vars)),
      ),
    )

-- ---- an item has bytes

some_item : {A : Type 0} (item : A → List ℕ) → ((a : A) → 0 < length (item a)) → (i : ℕ) (bs : List A) → i < length bs → 0 < length (flat_map item (take 1 (drop i bs)))
some_item item has i [] lt = absurd (omega (arith, lt))
some_item item has zero (a ∷ bs) lt = omega (arith, has a, ap length (append-nil (item a)))
some_item item has (suc i) (a ∷ bs) lt = some_item item has i bs (omega (arith, lt))

counts_take : (v : Version) → 0 < count_width_of v
counts_take V1 = omega arith
counts_take V2 = omega arith
counts_take V5 = omega arith

some_dim : (v : Version) (d : Dim) → 0 < length (canon_dim v d)
some_dim v d = omega (arith, length-canon_dim v d, counts_take v)

some_attr : (v : Version) (a : Attr) → 0 < length (canon_attr v a)
some_attr v a = omega (arith, length-canon_attr v a)

some_var : (v : Version) (x : Var) → 0 < length (canon_name v x.name ++ canon_dimids v x.dims)
some_var v x =
    let w = count_width_of v in
    omega (
      arith,
      counts_take v,
      length-append (canon_name v x.name) (canon_dimids v x.dims),
      length-append (big_endian w (length x.dims)) (flat_map (big_endian w) x.dims),
      length-big_endian w (length x.dims),
    )

pub some_bytes : (s : Schema) (x : NameOf) → HasName s x → 0 < length (bytes_named s x)
some_bytes s (of.Dim i) there = some_item (canon_dim s.version) (some_dim s.version) i s.dims there
some_bytes s (of.Global i) there = some_item (canon_attr s.version) (some_attr s.version) i s.gatts there
some_bytes s (of.Var i) there = some_item (λ x. canon_name s.version x.name ++ canon_dimids s.version x.dims) (some_var s.version) i s.vars there
some_bytes s (of.Attr i j) there = some_item (canon_attr s.version) (some_attr s.version) j (first_attrs (drop i s.vars)) there.1

-- ---- the whole header

module _ (s : Schema) where
  abbrev v : Version
  v = s.version

  abbrev pub vars_part : List (Part × List ℕ)
  vars_part = (parts.VarList, canon_head v nc_variable (length s.vars)) ∷ vars_from v 0 s.vars

  abbrev pub globals_part : List (Part × List ℕ)
  globals_part = (parts.GlobalList, canon_head v nc_attribute (length s.gatts)) ∷ (globals_from v 0 s.gatts ++ vars_part)

  pub to_dims : (o m : ℕ) → o ≡ 4 + count_width_of v + list_size v + m → part_at o (parts_of s) ≡ part_at m (dims_from v 0 s.dims ++ globals_part)
  to_dims o m is =
      let w = count_width_of v in
      let number = big_endian w (numrecs_word v s.count) in
      let head = canon_head v nc_dimension (length s.dims) in
      let dims = dims_from v 0 s.dims ++ globals_part in
      past o (w + (list_size v + m)) parts.Magic (magic_bytes v) ((parts.NumRecs, number) ∷ (parts.DimList, head) ∷ dims) (omega (arith, is, length-big_endian 1 (byte_of v)))
      ∙ past (w + (list_size v + m)) (list_size v + m) parts.NumRecs number ((parts.DimList, head) ∷ dims) (omega (arith, length-big_endian w (numrecs_word v s.count)))
      ∙ past (list_size v + m) m parts.DimList head dims (omega (arith, length-canon_head v nc_dimension (length s.dims)))

  pub to_globals : (o m : ℕ) → o ≡ 4 + count_width_of v + list_size v + (length (flat_map (canon_dim v) s.dims) + (list_size v + m)) → part_at o (parts_of s) ≡ part_at m (globals_from v 0 s.gatts ++ vars_part)
  to_globals o m is =
      let dims = length (flat_map (canon_dim v) s.dims) in
      let head = canon_head v nc_attribute (length s.gatts) in
      to_dims o (dims + (list_size v + m)) is
      ∙ past_all (dims + (list_size v + m)) (list_size v + m) (dims_from v 0 s.dims) globals_part (omega (arith, ap length (dims_spell v 0 s.dims)))
      ∙ past (list_size v + m) m parts.GlobalList head (globals_from v 0 s.gatts ++ vars_part) (omega (arith, length-canon_head v nc_attribute (length s.gatts)))

  pub to_vars : (places : List Place) (o m i : ℕ) → length places ≡ length s.vars → o ≡ var_at s places i + m → part_at o (parts_of s) ≡ part_at (before (canon_unplaced v) i s.vars + m) (vars_from v 0 s.vars)
  to_vars places o m i long is =
      let globals = length (flat_map (canon_attr v) s.gatts) in
      let into = before (canon_unplaced v) i s.vars + m in
      to_globals o (globals + (list_size v + into))
      (omega (arith, is, length-canon_list v nc_dimension (canon_dim v) s.dims, length-canon_list v nc_attribute (canon_attr v) s.gatts, before-placed v i s.vars places long))
      ∙ past_all (globals + (list_size v + into)) (list_size v + into) (globals_from v 0 s.gatts) vars_part (omega (arith, ap length (globals_spell v 0 s.gatts)))
      ∙ past (list_size v + into) into parts.VarList (canon_head v nc_variable (length s.vars)) (vars_from v 0 s.vars) (omega (arith, length-canon_head v nc_variable (length s.vars)))

  module _ (places : List Place) (long : length places ≡ length s.vars) where
    -- a variable that has a byte there is there
    var_there : (i : ℕ) {B : Type 0} (f : List Var → List B) (o : ℕ) → f [] ≡ [] → o < length (f (drop i s.vars)) → i < length s.vars
    var_there i f o none lt = there i s.vars lt
      where
        there : (i : ℕ) (vars : List Var) → o < length (f (drop i vars)) → i < length vars
        there zero [] lt = absurd (omega (arith, lt, ap length none))
        there (suc i) [] lt = absurd (omega (arith, lt, ap length none))
        there zero (x ∷ vars) lt = omega arith
        there (suc i) (x ∷ vars) lt = omega (arith, there i vars lt)

    pub labelled : (x : NameOf) (o : ℕ) → o < length (bytes_named s x) → part_at (name_at s places x + o) (parts_of s) ≡ Some (part_named x)
    labelled (of.Dim i) o lt =
        to_dims (name_at s places (of.Dim i) + o) (before (canon_dim v) i s.dims + o) (omega arith)
        ∙ ap (λ ps. part_at (before (canon_dim v) i s.dims + o) (ps ++ globals_part)) (dims_listed v 0 s.dims)
        ∙ at_item_of_all parts.Dim (canon_dim v) i o s.dims globals_part lt
    labelled (of.Global i) o lt =
        to_globals (name_at s places (of.Global i) + o) (before (canon_attr v) i s.gatts + o) (omega (arith, length-canon_list v nc_dimension (canon_dim v) s.dims))
        ∙ ap (λ ps. part_at (before (canon_attr v) i s.gatts + o) (ps ++ vars_part)) (globals_listed v 0 s.gatts)
        ∙ at_item_of_all parts.Global (canon_attr v) i o s.gatts vars_part lt
    labelled (of.Var i) o lt =
        to_vars places (name_at s places (of.Var i) + o) o i long refl
        ∙ to_var_of_all v i o s.vars (var_there i (λ vars. flat_map (λ x. canon_name v x.name ++ canon_dimids v x.dims) (take 1 vars)) o refl lt)
        ∙ at_var v i o (drop i s.vars) lt
    labelled (of.Attr i j) o lt =
        to_vars places (name_at s places (of.Attr i j) + o) (attr_in v j (drop i s.vars) + o) i long (omega arith)
        ∙ to_var_of_all v i (attr_in v j (drop i s.vars) + o) s.vars (var_there i (λ vars. flat_map (canon_attr v) (take 1 (drop j (first_attrs vars)))) o (none j) lt)
        ∙ at_attr v i j o (drop i s.vars) lt
      where
        none : (j : ℕ) → flat_map (canon_attr v) (take 1 (drop j [])) ≡ []
        none zero = refl
        none (suc j) = refl

    pub placed : (i m : ℕ) → i < length s.vars → 0 < m → m ≤ 4 + count_width_of v + offset_width_of v → part_at (var_at s places (suc i) - m) (parts_of s) ≡ Some (parts.Place i)
    placed i m lt some few =
        let n = before_next v i s.vars lt in
        let o = length (canon_unplaced v n.0) - m in
        let size = length-canon_var v n.0 no_place in
        to_vars places (var_at s places (suc i) - m) o i long (omega (arith, few, size, n.3, before-placed v (suc i) s.vars places long, before-placed v i s.vars places long))
        ∙ to_var_of_all v i o s.vars lt
        ∙ ap (λ vs. part_at o (from_var v i vs)) n.2
        ∙ at_place v i o m n.0 n.1 (omega (arith, few, size)) some (omega (arith, few))

    -- ---- the heads of lists, by what comes after them

    pub dims_head : (m : ℕ) → 0 < m → m ≤ list_size v → part_at (name_at s places (of.Dim 0) - m) (parts_of s) ≡ Some parts.DimList
    dims_head m some few =
        let w = count_width_of v in
        let number = big_endian w (numrecs_word v s.count) in
        let head = canon_head v nc_dimension (length s.dims) in
        let dims = dims_from v 0 s.dims ++ globals_part in
        let o = list_size v - m in
        past (name_at s places (of.Dim 0) - m) (w + o) parts.Magic (magic_bytes v) ((parts.NumRecs, number) ∷ (parts.DimList, head) ∷ dims) (omega (arith, some, few, length-big_endian 1 (byte_of v), nothing (canon_dim v) s.dims 0))
        ∙ past (w + o) o parts.NumRecs number ((parts.DimList, head) ∷ dims) (omega (arith, length-big_endian w (numrecs_word v s.count)))
        ∙ here o parts.DimList head dims (omega (arith, some, few, length-canon_head v nc_dimension (length s.dims)))

    pub globals_head : (m : ℕ) → 0 < m → m ≤ list_size v → part_at (name_at s places (of.Global 0) - m) (parts_of s) ≡ Some parts.GlobalList
    globals_head m some few =
        let dims = length (flat_map (canon_dim v) s.dims) in
        let head = canon_head v nc_attribute (length s.gatts) in
        let o = list_size v - m in
        to_dims (name_at s places (of.Global 0) - m) (dims + o) (omega (arith, some, few, length-canon_list v nc_dimension (canon_dim v) s.dims, nothing (canon_attr v) s.gatts 0))
        ∙ past_all (dims + o) o (dims_from v 0 s.dims) globals_part (omega (arith, ap length (dims_spell v 0 s.dims)))
        ∙ here o parts.GlobalList head (globals_from v 0 s.gatts ++ vars_part) (omega (arith, some, few, length-canon_head v nc_attribute (length s.gatts)))

    pub vars_head : (m : ℕ) → 0 < m → m ≤ list_size v → part_at (var_at s places 0 - m) (parts_of s) ≡ Some parts.VarList
    vars_head m some few =
        let dims = length (flat_map (canon_dim v) s.dims) in
        let globals = length (flat_map (canon_attr v) s.gatts) in
        let head = canon_head v nc_variable (length s.vars) in
        let o = list_size v - m in
        to_globals (var_at s places 0 - m) (globals + o) (omega (arith, some, few, length-canon_list v nc_dimension (canon_dim v) s.dims, length-canon_list v nc_attribute (canon_attr v) s.gatts, before-placed v 0 s.vars places long, nothing (canon_unplaced v) s.vars 0))
        ∙ past_all (globals + o) o (globals_from v 0 s.gatts) vars_part (omega (arith, ap length (globals_spell v 0 s.gatts)))
        ∙ here o parts.VarList head (vars_from v 0 s.vars) (omega (arith, some, few, length-canon_head v nc_variable (length s.vars)))

    pub attrs_head : (i m : ℕ) → i < length s.vars → 0 < m → m ≤ list_size v → part_at (name_at s places (of.Attr i 0) - m) (parts_of s) ≡ Some (parts.AttrList i)
    attrs_head i m lt some few =
        let n = before_next v i s.vars lt in
        let x = n.0 in
        let named = canon_name v x.name ++ canon_dimids v x.dims in
        let head = canon_head v nc_attribute (length x.attrs) in
        let rest = vars_from v (suc i) n.1 in
        let o = list_size v - m in
        let none = nothing (canon_attr v) x.attrs 0 in
        let alone : attrs_in v x + before (canon_attr v) 0 x.attrs ≡ attrs_in v x = omega (arith, none) in
        let first : attr_in v 0 (drop i s.vars) ≡ attrs_in v x = ap (attr_in v 0) n.2 ∙ alone in
        to_vars places (name_at s places (of.Attr i 0) - m) (length named + o) i long (omega (arith, some, few, first, length-append (canon_name v x.name) (canon_dimids v x.dims)))
        ∙ to_var_of_all v i (length named + o) s.vars lt
        ∙ ap (λ vs. part_at (length named + o) (from_var v i vs)) n.2
        ∙ past (length named + o) o (parts.Var i) named (var_rest v i x ++ rest) refl
        ∙ here o (parts.AttrList i) head ((attrs_from v i 0 x.attrs ++ (parts.Place i, place_fields v x no_place) ∷ []) ++ rest) (omega (arith, some, few, length-canon_head v nc_attribute (length x.attrs)))

  pub magic : (o : ℕ) → o < 4 → part_at o (parts_of s) ≡ Some parts.Magic
  magic o few =
      let number = big_endian (count_width_of v) (numrecs_word v s.count) in
      let rest = (parts.NumRecs, number) ∷ (parts.DimList, canon_head v nc_dimension (length s.dims)) ∷ (dims_from v 0 s.dims ++ globals_part) in
      here o parts.Magic (magic_bytes v) rest (omega (arith, few, length-big_endian 1 (byte_of v)))

  pub numrecs : (o : ℕ) → o < count_width_of v → part_at (4 + o) (parts_of s) ≡ Some parts.NumRecs
  numrecs o few =
      let w = count_width_of v in
      let number = big_endian w (numrecs_word v s.count) in
      let rest = (parts.DimList, canon_head v nc_dimension (length s.dims)) ∷ (dims_from v 0 s.dims ++ globals_part) in
      past (4 + o) o parts.Magic (magic_bytes v) ((parts.NumRecs, number) ∷ rest) (omega (arith, length-big_endian 1 (byte_of v)))
      ∙ here o parts.NumRecs number rest (omega (arith, few, length-big_endian w (numrecs_word v s.count)))
