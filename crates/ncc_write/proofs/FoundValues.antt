-- Bytes in which all variables have room hold the dataset that is at their places.
use Rattle.std.proofs.Common.{◌≡◌, ℕ, ◌+◌, ◌*◌, Bool, true, false, List, [], ◌∷◌, ◌++◌, length, take, get_or, refl, sym, ap, ap₂, subst, ◌∙◌, arith}
use Rattle.std.specs.Prelude.{if◌then◌else◌, filter}
use Rattle.std.proofs.lemmas.Bool.{not_from_false}
use Rattle.std.proofs.lemmas.List.{take_at}
use Rattle.std.proofs.lemmas.List.FromFn.{get_or-map-range_with_len}
use Rattle.ncc_values.specs.Values.{bytes_of}
use Rattle.ncc_values.specs.XType.{size_of}
use Rattle.ncc_values.specs.declared.values.Values.{Values}
use Rattle.ncc_schema.specs.declared.schema.Schema.{Schema}
use Rattle.ncc_schema.specs.declared.schema.Var.{Var}
use Rattle.ncc_schema.specs.Schema.{Place, is_record_var}
use Rattle.ncc_layout.specs.declared.placed_var.PlacedVar.{PlacedVar}
use Rattle.ncc_layout.specs.Elements.{Inside, placed_from, placed_var, row_major, var_at}
use Rattle.ncc_layout.specs.Plans.{known}
use Rattle.ncc_layout.specs.Sizes.{inner, slab, record_size_of}
use Rattle.ncc_build.specs.Dataset.{Dataset}
use Rattle.ncc_write.specs.Holds.{HoldsValues, before, bytes_at, no_slab, stored_at, value_at, vars_of}
use Rattle.ncc_write.proofs.FoundSlabs.{HaveRoom, room_found, slab_at, slab_found, slab_stands, slabs_at}
use Rattle.ncc_write.proofs.Holding.{element_read}
use Rattle.ncc_write.proofs.Indices.{var_placed}
use Rattle.ncc_write.proofs.Pieces.{split_at}
use Rattle.ncc_write.proofs.SlabPlaces.{Placed}
use Rattle.ncc_write.proofs.FoundDatasets.{HasRoom, dataset_in, fixed_kind, record_in, record_kind, room_of_fixed, room_of_record}

module _ (s : Schema) (places : List Place) (bytes : List ℕ) (has : HasRoom s places bytes) where
  abbrev d : Dataset
  d = dataset_in s places bytes

  -- ---- one variable

  module _ (front : List Var) (x : Var) (after : List Var) (joined : s.vars ≡ front ++ x ∷ after) (qs : List Place)
      (q : Place) (later : List Place) (there : places ≡ qs ++ q ∷ later) (as_many : length front ≡ length qs) where
    abbrev n : ℕ
    n = length front

    abbrev size : ℕ
    size = record_size_of s

    abbrev w : ℕ
    w = size_of x.xtype

    front_is : take n s.vars ≡ front
    front_is = ap (take n) joined ∙ take_at front (x ∷ after) n refl

    found : (kind : Var → Bool) (further : ℕ) → kind x ≡ true
        → get_or (slabs_at kind s.dims bytes further s.vars places) (length (filter kind (take n s.vars))) no_slab
        ≡ slab_at s.dims bytes x (q.begin + further)
    found kind further is =
        ap (λ (l : List Var). get_or (slabs_at kind s.dims bytes further s.vars places) (length (filter kind l))
        no_slab) front_is
        ∙ ap₂ (λ (l : List Var) (m : List Place). get_or (slabs_at kind s.dims bytes further l m)
        (length (filter kind front)) no_slab) joined there
        ∙ slab_found kind s.dims bytes further front x after qs q later as_many is

    stands : (kind : Var → Bool) (further : ℕ) → kind x ≡ true
        → HaveRoom kind s.dims (length bytes) further s.vars places
        → Placed s bytes x (slab_at s.dims bytes x (q.begin + further)) (q.begin + further)
    stands kind further is room =
        slab_stands s bytes x (q.begin + further) has.are
        (room_found kind s.dims (length bytes) further front x after qs q later as_many is
        (subst (λ (m : List Place). HaveRoom kind s.dims (length bytes) further (front ++ x ∷ after) m) there
        (subst (λ (l : List Var). HaveRoom kind s.dims (length bytes) further l places) joined room)))

    -- the variable by its kind
    abbrev by_kind : (t : Bool) → PlacedVar
    by_kind t = record {
      xtype = x.xtype;
      shape = if t then known s.count ∷ inner s.dims x else inner s.dims x;
      extent = record { begin = q.begin; slab = slab s.dims x; variable = n; is_record = t };
    }

    abbrev Held : PlacedVar → Type 0
    Held y = (index : List ℕ) → Inside y.shape index → stored_at bytes size y index ≡ value_at d y n index

    element_held : (kind : Var → Bool) (further place : ℕ) (index : List ℕ) → kind x ≡ true
        → HaveRoom kind s.dims (length bytes) further s.vars places → Inside (inner s.dims x) index
        → place ≡ q.begin + further + row_major (inner s.dims x) index * w
        → bytes_at bytes place w
        ≡ bytes_at (bytes_of (get_or (slabs_at kind s.dims bytes further s.vars places)
        (length (filter kind (take n s.vars))) no_slab)) (row_major (inner s.dims x) index * w) w
    element_held kind further place index is room inside at =
        ap (λ (m : ℕ). bytes_at bytes m w) at
        ∙ element_read s bytes x (slab_at s.dims bytes x (q.begin + further)) (q.begin + further) index
        (stands kind further is room) inside
        ∙ ap (λ (v : Values). bytes_at (bytes_of v) (row_major (inner s.dims x) index * w) w)
        (sym (found kind further is))

    held_by : (t : Bool) → is_record_var s.dims x ≡ t → Held (by_kind t)
    held_by true is [] inside = absurd inside
    held_by true is (r ∷ index) inside =
        let k = row_major (inner s.dims x) index * w in
        let record_is : record_in s places bytes r ≡ get_or d.records r [] =
        sym (get_or-map-range_with_len (record_in s places bytes) 0 (known s.count) r r [] inside.0 (omega arith)) in
        element_held (record_kind s) (r * size) (q.begin + (r * size + k)) index is
        (room_of_record s places bytes has r inside.0) inside.1 (omega arith)
        ∙ ap (λ (l : List Values). bytes_at (bytes_of (get_or l (before s true n) no_slab)) k w) record_is
    held_by false is index inside =
        element_held (fixed_kind s) 0 (q.begin + row_major (inner s.dims x) index * w) index
        (not_from_false (is_record_var s.dims x) is) (room_of_fixed s places bytes has) inside (omega arith)

    var_is : var_at (vars_of d places) n ≡ by_kind (is_record_var s.dims x)
    var_is =
        let none : 0 + n ≡ n = omega arith in
        ap₂ (λ (l : List Var) (m : List Place). var_at (placed_from s.dims (known s.count) 0 l m) n) joined there
        ∙ var_placed s.dims (known s.count) 0 front x after qs q later as_many
        ∙ ap (λ (m : ℕ). placed_var s.dims (known s.count) m x q) none

    pub var_held : Held (var_at (vars_of d places) n)
    var_held = subst Held (sym var_is) (held_by (is_record_var s.dims x) refl)

  -- ---- all variables

  pub values_held : HoldsValues bytes places d
  values_held n index below inside =
      let at = split_at s.vars n below in
      let there = split_at places n (omega (arith, has.many, below)) in
      subst (λ (m : ℕ). (index : List ℕ) → Inside (var_at (vars_of d places) m).shape index
      → stored_at bytes (record_size_of s) (var_at (vars_of d places) m) index
      ≡ value_at d (var_at (vars_of d places) m) m index) at.long
      (var_held at.front at.item at.after at.joined there.front there.item there.after there.joined
      (at.long ∙ sym there.long)) index inside
