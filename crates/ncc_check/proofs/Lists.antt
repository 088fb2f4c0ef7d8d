-- The lists of names of a header, by number, and where they stand.
use Rattle.std.proofs.Common.{◌≡◌, ℕ, zero, suc, ◌+◌, ◌<◌, ◌^◌, List, [], ◌∷◌, ◌++◌, length, map, take, drop, get_or, refl, sym, ap, ◌∙◌, arith, append-nil, length-append}
use Rattle.std.specs.Prelude.{slice_get, Some}
use Rattle.std.specs.List.{flat_map}
use Rattle.std.proofs.lemmas.Grind.{flat_map-append}
use Rattle.std.proofs.lemmas.List.{take_more}
use Rattle.ncc_schema.specs.declared.names.NameOf.{NameOf}
use Rattle.ncc_schema.specs.declared.names.NameOf.TheVariants as of
use Rattle.ncc_schema.specs.declared.schema.Attr.{Attr}
use Rattle.ncc_schema.specs.declared.schema.Dim.{Dim}
use Rattle.ncc_schema.specs.declared.schema.Header.{Header}
use Rattle.ncc_schema.specs.declared.schema.Schema.{Schema}
use Rattle.ncc_schema.specs.declared.schema.Var.{Var}
use Rattle.ncc_schema.specs.Header.{canon, canon_attr, canon_dim, canon_name}
use Rattle.ncc_schema.specs.Names.{HasName, StandsAt, before, canon_unplaced, capped, first_attr, first_dim, first_var, gatts_at, head_size, list_size, name_at, name_of, vars_at}
use Rattle.ncc_schema.specs.Schema.{Legal, Place, places_of}
use Rattle.ncc_schema.proofs.Sizes.{before-placed}
use Rattle.ncc_check.specs.Notes.{name_field}
use Rattle.ncc_check.specs.Noting.{dim_offsets, offsets_from, var_offsets}

-- ---- by number

pub dim_name : (dims : List Dim) (k : ℕ) → get_or (map (λ (d : Dim). d.name) dims) k [] ≡ first_dim (drop k dims)
dim_name [] zero = refl
dim_name [] (suc k) = refl
dim_name (d ∷ dims) zero = refl
dim_name (d ∷ dims) (suc k) = dim_name dims k

pub attr_name : (attrs : List Attr) (k : ℕ) → get_or (map (λ (a : Attr). a.name) attrs) k [] ≡ first_attr (drop k attrs)
attr_name [] zero = refl
attr_name [] (suc k) = refl
attr_name (a ∷ attrs) zero = refl
attr_name (a ∷ attrs) (suc k) = attr_name attrs k

pub var_name : (vars : List Var) (k : ℕ) → get_or (map (λ (x : Var). x.name) vars) k [] ≡ first_var (drop k vars)
var_name [] zero = refl
var_name [] (suc k) = refl
var_name (x ∷ vars) zero = refl
var_name (x ∷ vars) (suc k) = var_name vars k

-- what is before the next item, one by one
pub offset_of : {A : Type 0} (item : A → List ℕ) (at : ℕ) (xs : List A) (k : ℕ) → k < length xs → get_or (offsets_from item (capped at) xs) k 0 ≡ capped (at + before item k xs)
offset_of item at [] k h = absurd (omega (arith, h))
offset_of item at (x ∷ xs) zero h = omega arith
offset_of item at (x ∷ xs) (suc k) h =
    let onward : capped (capped at + length (item x)) ≡ capped (at + length (item x)) = omega arith in
    let more = length-append (item x) (flat_map item (take k xs)) in
    ap (λ o. get_or (offsets_from item o xs) k 0) onward ∙ offset_of item (at + length (item x)) xs k (omega (arith, h)) ∙ ap capped (omega (arith, more))

-- what the next item adds
pub before_more : {A : Type 0} (item : A → List ℕ) (items : List A) (k : ℕ) (x : A) → k < length items → x ≡ get_or items k x → before item (k + 1) items ≡ before item k items + length (item x)
before_more item items k x below is =
    let next = take_more items k x below ∙ ap (λ y. take k items ++ y ∷ []) (sym is) in
    ap (λ xs. length (flat_map item xs)) next
    ∙ ap length (flat_map-append item (take k items) (x ∷ []) ∙ ap (λ ys. flat_map item (take k items) ++ ys) (append-nil (item x)))
    ∙ length-append (flat_map item (take k items)) (item x)

-- the offset of the next item
pub step_on : {A : Type 0} (item : A → List ℕ) (start : ℕ) (items : List A) (k : ℕ) (x : A) (offset size : ℕ) → k < length items → x ≡ get_or items k x → size ≡ capped (length (item x))
    → offset ≡ capped (start + before item k items) → capped (offset + size) ≡ capped (start + before item (k + 1) items)
step_on item start items k x offset size below is long at = let more = before_more item items k x below is in omega (arith, long, at, more)

-- the offset of an item, of a list whose first one has an offset of 64 bits
pub offset_at : {A : Type 0} (item : A → List ℕ) (start : ℕ) (items : List A) (k : ℕ) → start < 2 ^ 64 → k < length items → get_or (offsets_from item start items) k 0 ≡ capped (start + before item k items)
offset_at item start items k small below =
    let fits : start ≡ capped start = omega (arith, small) in
    ap (λ at. get_or (offsets_from item at items) k 0) fits ∙ offset_of item start items k below

pub at_var : (vars : List Var) (i : ℕ) (x : Var) → slice_get vars i ≡ Some x → (more : List Var) × (drop i vars ≡ x ∷ more)
at_var [] i x e = absurd cc
at_var (y ∷ vars) zero x e = let same : y ≡ x = cc in (vars, ap (λ (z : Var). z ∷ vars) same)
at_var (y ∷ vars) (suc i) x e = at_var vars i x e

-- ---- inside the header

module _ (h : Header) (legal : Legal h.schema (places_of h.places)) (long : h.length ≡ length (canon h.schema (places_of h.places))) (small : h.length < 2 ^ 64)
    (law : (s : Schema) (places : List Place) (o : NameOf) → Legal s places → HasName s o → StandsAt (canon s places) (canon_name s.version (name_of s o)) (name_at s places o)) where
  pub ends : (o : NameOf) → HasName h.schema o → name_field h o + length (canon_name h.schema.version (name_of h.schema o)) < 2 ^ 64
  ends o there =
      let name = canon_name h.schema.version (name_of h.schema o) in
      let t = law h.schema (places_of h.places) o legal there in
      omega (arith, long, t.long, ap length t.joined, length-append t.front (name ++ t.rest), length-append name t.rest)

  pub uncapped : (o : NameOf) → HasName h.schema o → capped (name_field h o) ≡ name_field h o
  uncapped o there = let e = ends o there in omega (arith, e)

  pub uncapped_end : (o : NameOf) → HasName h.schema o → capped (name_field h o + length (canon_name h.schema.version (name_of h.schema o))) ≡ name_field h o + length (canon_name h.schema.version (name_of h.schema o))
  uncapped_end o there = let e = ends o there in omega (arith, e)

  pub dim_offset : (k : ℕ) → k < length h.schema.dims → get_or (dim_offsets h.schema) k 0 ≡ name_field h (of.Dim k)
  dim_offset k below = offset_of (canon_dim h.schema.version) (head_size h.schema.version + list_size h.schema.version) h.schema.dims k below ∙ uncapped (of.Dim k) below

  pub global_offset : (k : ℕ) → k < length h.schema.gatts → get_or (offsets_from (canon_attr h.schema.version) (capped (gatts_at h.schema + list_size h.schema.version)) h.schema.gatts) k 0 ≡ name_field h (of.Global k)
  global_offset k below = offset_of (canon_attr h.schema.version) (gatts_at h.schema + list_size h.schema.version) h.schema.gatts k below ∙ uncapped (of.Global k) below

  pub capped_var : (k : ℕ) → k < length h.schema.vars → get_or (var_offsets h.schema) k 0 ≡ capped (name_field h (of.Var k))
  capped_var k below =
      offset_of (canon_unplaced h.schema.version) (vars_at h.schema + list_size h.schema.version) h.schema.vars k below
      ∙ ap (λ n. capped (vars_at h.schema + list_size h.schema.version + n)) (sym (before-placed h.schema.version k h.schema.vars (places_of h.places) legal.number))

  pub var_offset : (k : ℕ) → k < length h.schema.vars → get_or (var_offsets h.schema) k 0 ≡ name_field h (of.Var k)
  var_offset k below = capped_var k below ∙ uncapped (of.Var k) below
