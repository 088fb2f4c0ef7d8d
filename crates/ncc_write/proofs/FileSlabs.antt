-- Where the bytes of each element of a file are those of its value, those of a slab are the slab's values.
use Rattle.std.proofs.Common.{◌≡◌, ◌⊎◌, inl, inr, ℕ, ◌+◌, ◌*◌, ◌<◌, ◌≤◌, Bool, true, false, List, [], ◌∷◌, ◌++◌, length, take, drop, sym, ap, ap₂, subst, ◌∙◌, arith, length-append, length-drop}
use Rattle.std.specs.Prelude.{if◌then◌else◌}
use Rattle.std.proofs.lemmas.List.{length-take-le, take-append-drop}
use Rattle.std.proofs.lemmas.Nat.{mul-le}
use Rattle.ncc_values.specs.Values.{bytes_of}
use Rattle.ncc_values.specs.XType.{size_of}
use Rattle.ncc_values.specs.declared.values.Values.{Values}
use Rattle.ncc_schema.specs.declared.schema.Schema.{Schema}
use Rattle.ncc_schema.specs.declared.schema.Var.{Var}
use Rattle.ncc_schema.specs.Names.{StandsAt}
use Rattle.ncc_schema.specs.Schema.{Place, is_record_var}
use Rattle.ncc_layout.specs.declared.placed_var.PlacedVar.{PlacedVar}
use Rattle.ncc_layout.specs.Elements.{Inside, placed_from, placed_var, placed_with, row_major, var_at}
use Rattle.ncc_layout.specs.Plans.{known}
use Rattle.ncc_layout.specs.Sizes.{inner, slab}
use Rattle.ncc_slab.specs.SlabPlaces.{slab_begin}
use Rattle.ncc_build.specs.Dataset.{Dataset, Slab, elements}
use Rattle.ncc_write.specs.Holds.{bytes_at, slab_with, stored_at, value_at, vars_of}
use Rattle.ncc_write.proofs.Indices.{var_placed}
use Rattle.ncc_write.proofs.Pieces.{Split, read_in, split_at}
use Rattle.ncc_write.proofs.Same.{index_of, same_parts}
use Rattle.ncc_write.proofs.Slabs.{length_slab}
use Rattle.ncc_write.proofs.OpenedDatasets.{as_many}
use Rattle.ncc_write.proofs.SlabsAt.{HasValues, IsAmong}

-- ---- bytes in bytes

stands_there : (file : List ℕ) (at n : ℕ) → at + n ≤ length file → StandsAt file (bytes_at file at n) at
stands_there file at n room = record {
  front = take at file;
  rest = drop n (drop at file);
  joined = sym (take-append-drop at file)
      ∙ ap (λ (l : List ℕ). take at file ++ l) (sym (take-append-drop n (drop at file)));
  long = length-take-le at file (omega (arith, room));
}

pub long_there : (file : List ℕ) (at n : ℕ) → at + n ≤ length file → length (bytes_at file at n) ≡ n
long_there file at n room = length-take-le n (drop at file) (omega (arith, room, length-drop at file))

pub read_there : (file : List ℕ) (at n k w : ℕ) → at + n ≤ length file → k + w ≤ n
    → bytes_at file (at + k) w ≡ bytes_at (bytes_at file at n) k w
read_there file at n k w room fits =
    read_in file (bytes_at file at n) at k w (stands_there file at n room)
    (omega (arith, fits, long_there file at n room))

-- ---- the variable of a slab, at its place

pub record PlacedSlab (s : Schema) (vars : List PlacedVar) (b : Slab) : Type 0 where
  pub there : b.number < length vars
  pub xtype_is : (var_at vars b.number).xtype ≡ b.var.xtype
  pub slab_is : (var_at vars b.number).extent.slab ≡ slab s.dims b.var
  pub record_is : (var_at vars b.number).extent.is_record ≡ is_record_var s.dims b.var

module _ (s : Schema) (b : Slab) (among : IsAmong s b) (places : List Place) (many : length places ≡ length s.vars) where
  abbrev front : List Var
  front = among.front

  below : length front < length s.vars
  below = omega (arith, ap (λ (l : List Var). length l) among.joined, length-append front (b.var ∷ among.after))

  at_place : Split places (length front)
  at_place = split_at places (length front) (omega (arith, many, below))

  pub place_in : Place
  place_in = at_place.item

  pub placed_there : var_at (placed_with s places (known s.count)) b.number
      ≡ placed_var s.dims (known s.count) b.number b.var place_in
  unfolding place_in
  placed_there =
      let none : 0 + length front ≡ length front = omega arith in
      ap (var_at (placed_with s places (known s.count))) among.number_is
      ∙ ap₂ (λ (l : List Var) (m : List Place). var_at (placed_from s.dims (known s.count) 0 l m) (length front))
      among.joined at_place.joined
      ∙ var_placed s.dims (known s.count) 0 front b.var among.after at_place.front at_place.item at_place.after
      (sym at_place.long)
      ∙ ap (λ (m : ℕ). placed_var s.dims (known s.count) m b.var at_place.item) (none ∙ sym among.number_is)

  pub placed_slab : PlacedSlab s (placed_with s places (known s.count)) b
  placed_slab = record {
    there = omega (arith, below, among.number_is, as_many s.dims (known s.count) 0 s.vars places many);
    xtype_is = ap (λ (x : PlacedVar). x.xtype) placed_there;
    slab_is = ap (λ (x : PlacedVar). x.extent.slab) placed_there;
    record_is = ap (λ (x : PlacedVar). x.extent.is_record) placed_there;
  }

-- ---- a slab

module _ (file : List ℕ) (size : ℕ) (d : Dataset) (b : Slab) (v : Values) (has : HasValues d b v) where
  abbrev w : ℕ
  w = size_of b.var.xtype

  abbrev lengths : List ℕ
  lengths = inner d.schema.dims b.var

  abbrev long : ℕ
  long = slab d.schema.dims b.var

  -- the bytes of each element of the variable are those of its value
  abbrev Stored : PlacedVar → Type 0
  Stored y = (index : List ℕ) → Inside y.shape index → stored_at file size y index ≡ value_at d y b.number index

  -- and then those of the slab
  abbrev IsSlab : PlacedVar → Type 0
  IsSlab y = slab_begin size y b.in_record + y.extent.slab ≤ length file → Stored y
      → bytes_at file (slab_begin size y b.in_record) y.extent.slab ≡ bytes_of v

  abbrev by_kind : Place → Bool → PlacedVar
  by_kind q t = record {
    xtype = b.var.xtype;
    shape = if t then known d.schema.count ∷ lengths else lengths;
    extent = record { begin = q.begin; slab = long; variable = b.number; is_record = t };
  }

  in_slab : (k : ℕ) → k < elements d.schema.dims b.var → k * w + w ≤ long
  in_slab k less =
      let e = elements d.schema.dims b.var in
      let next : k * w + w ≡ (k + 1) * w = omega arith in
      omega (arith, next, mul-le (k + 1) w e w (omega (arith, less)) (omega arith))

  slab_from : (at : ℕ) → at + long ≤ length file
      → ((index : List ℕ) → Inside lengths index
      → bytes_at file (at + row_major lengths index * w) w ≡ bytes_at (bytes_of v) (row_major lengths index * w) w)
      → bytes_at file at long ≡ bytes_of v
  slab_from at room each =
      same_parts w (elements d.schema.dims b.var) (bytes_at file at long) (bytes_of v) (long_there file at long room)
      (length_slab d.schema.dims b.var v has.slab_is) (λ k less.
      let index = index_of lengths k less in
      sym (read_there file at long (k * w) w room (in_slab k less))
      ∙ subst (λ (m : ℕ). bytes_at file (at + m * w) w ≡ bytes_at (bytes_of v) (m * w) w) index.2
      (each index.0 index.1))

  of_fixed : (q : Place) → is_record_var d.schema.dims b.var ≡ false → IsSlab (by_kind q false)
  of_fixed q kind room stored =
      let begin : slab_begin size (by_kind q false) b.in_record ≡ q.begin = omega arith in
      let values : v ≡ slab_with d b.number false [] =
      has.values_are ∙ ap (λ (t : Bool). slab_with d b.number t (b.in_record ∷ [])) kind in
      ap (λ (m : ℕ). bytes_at file m long) begin
      ∙ slab_from q.begin (omega (arith, room, begin)) (λ index inside. stored index inside
      ∙ ap (λ (l : Values). bytes_at (bytes_of l) (row_major lengths index * w) w) (sym values))

  of_record : (q : Place) → is_record_var d.schema.dims b.var ≡ true → b.in_record < known d.schema.count
      → IsSlab (by_kind q true)
  of_record q kind below room stored =
      let at = q.begin + b.in_record * size in
      slab_from at room (λ index inside.
      let place : at + row_major lengths index * w ≡ q.begin + (b.in_record * size + row_major lengths index * w) =
      omega arith in
      let values : v ≡ slab_with d b.number true (b.in_record ∷ index) =
      has.values_are ∙ ap (λ (t : Bool). slab_with d b.number t (b.in_record ∷ [])) kind in
      ap (λ (m : ℕ). bytes_at file m w) place ∙ stored (b.in_record ∷ index) (below, inside)
      ∙ ap (λ (l : Values). bytes_at (bytes_of l) (row_major lengths index * w) w) (sym values))

  of_kind : (q : Place) → IsSlab (by_kind q (is_record_var d.schema.dims b.var))
  of_kind q = by has.among.kind
    where
      by : ((is_record_var d.schema.dims b.var ≡ false) × (b.in_record ≡ 0))
          ⊎ ((is_record_var d.schema.dims b.var ≡ true) × (b.in_record < known d.schema.count))
          → IsSlab (by_kind q (is_record_var d.schema.dims b.var))
      by (inl fixed) = subst (λ (t : Bool). IsSlab (by_kind q t)) (sym fixed.0) (of_fixed q fixed.0)
      by (inr records) = subst (λ (t : Bool). IsSlab (by_kind q t)) (sym records.0) (of_record q records.0 records.1)

  pub slab_is_held : (places : List Place) → length places ≡ length d.schema.vars
      → IsSlab (var_at (vars_of d places) b.number)
  slab_is_held places many = subst IsSlab (sym (placed_there d.schema b has.among places many))
      (of_kind (place_in d.schema b has.among places many))
