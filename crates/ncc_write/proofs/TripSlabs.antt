-- The slabs of a completed file, as whoever opens it has them.
use Rattle.std.proofs.Common.{◌≡◌, ◌⊎◌, inl, inr, ℕ, zero, suc, ◌+◌, ◌*◌, ◌<◌, ◌≤◌, Bool, true, false, List, [], ◌∷◌, ◌++◌, length, take, drop, get_or, refl, sym, ap, subst, ◌∙◌, arith, length-append}
use Rattle.std.specs.Prelude.{sum_by, ◌%◌, if◌then◌else◌}
use Rattle.std.specs.List.{AllZip, flat_map}
use Rattle.std.proofs.Math.Logic.{∥∥₁_elim}
use Rattle.std.proofs.Math.Seq.{drop-append-add}
use Rattle.std.proofs.Props.{props}
use Rattle.std.proofs.lemmas.List.{get_or-map, length-map, take_at, take_more}
use Rattle.std.proofs.lemmas.List.Sums.{sum_by-append, sum_by-cons}
use Rattle.std.proofs.lemmas.Nat.{mul-le}
use Rattle.ncc_values.specs.Values.{bytes_of}
use Rattle.ncc_values.specs.XType.{size_of}
use Rattle.ncc_values.specs.declared.values.Values.{Values}
use Rattle.ncc_values.specs.declared.xtype.XType.{XType}
use Rattle.ncc_schema.specs.declared.schema.Schema.{Schema}
use Rattle.ncc_schema.specs.declared.schema.Var.{Var}
use Rattle.ncc_schema.specs.Schema.{Place, is_record_var}
use Rattle.ncc_layout.specs.declared.placed_file.Placed.{Placed}
use Rattle.ncc_layout.specs.declared.placed_var.PlacedVar.{PlacedVar}
use Rattle.ncc_layout.specs.Elements.{var_at, no_var}
use Rattle.ncc_layout.specs.Extents.{end}
use Rattle.ncc_layout.specs.Placed.{file_length_of, record_size_of_file, records_of_file, vars_of, extents_of_file, KeepsRules}
use Rattle.ncc_layout.specs.Plans.{known}
use Rattle.ncc_layout.specs.Rules.ByKind.{ByKind}
use Rattle.ncc_layout.specs.Rules.Truncated.{LastNotTruncated, NotTruncated}
use Rattle.ncc_layout.specs.Sizes.{record_size_of, slab}
use Rattle.ncc_layout.specs.Standard.{standard_places}
use Rattle.ncc_layout.proofs.ShapesInFile.{all_at}
use Rattle.ncc_check.specs.Checks.{Opens}
use Rattle.ncc_slab.specs.SlabPlaces.{HasSlab, slab_begin, slab_record}
use Rattle.ncc_build.specs.Dataset.{Dataset, Slab, elements, in_order, slabs_of}
use Rattle.ncc_build.specs.File.{header_of}
use Rattle.ncc_write.specs.Additions.{HoldsAll}
use Rattle.ncc_write.specs.Holds.{bytes_at, vars_of as vars_of_dataset}
use Rattle.ncc_write.specs.Laws.{IsCompleted, PassesUnnoted}
use Rattle.ncc_write.specs.Positions.{no_slab, slab_at}
use Rattle.ncc_write.specs.Trips.{SlabReads}
use Rattle.ncc_write.specs.Writing.{dataset_of}
use Rattle.ncc_write.proofs.FileSlabs.{PlacedSlab, placed_slab, slab_is_held}
use Rattle.ncc_write.proofs.OpenedDatasets.{OneHeader, many_places, opened_records, opened_size, opened_vars}
use Rattle.ncc_write.proofs.Slabs.{length_slab}
use Rattle.ncc_write.proofs.SlabsAt.{HasValues, all_have_values}
use Rattle.ncc_write.proofs.TripValues.{whole_by}

-- ---- among the bytes of all values

abbrev size_in : Schema → Slab → ℕ
size_in s b = slab s.dims b.var

-- one slab more
up_to : (s : Schema) (slabs : List Slab) (k : ℕ) → k < length slabs
    → sum_by (size_in s) (take (k + 1) slabs) ≡ sum_by (size_in s) (take k slabs) + size_in s (get_or slabs k no_slab)
up_to s slabs k less =
    let b = get_or slabs k no_slab in
    ap (sum_by (size_in s)) (take_more slabs k no_slab less) ∙ sum_by-append (size_in s) (take k slabs) (b ∷ [])
    ∙ (let one = sum_by-cons (size_in s) b [] in omega (arith, one))

-- the values of the slab with this number, and where their bytes are
record Piece (d : Dataset) (slabs : List Slab) (bytes : List ℕ) (k : ℕ) : Type 0 where
  values : Values
  has : HasValues d (get_or slabs k no_slab) values
  room : sum_by (size_in d.schema) (take k slabs) + size_in d.schema (get_or slabs k no_slab) ≤ length bytes
  is : take (size_in d.schema (get_or slabs k no_slab)) (drop (sum_by (size_in d.schema) (take k slabs)) bytes)
      ≡ bytes_of values

piece_at : (d : Dataset) (slabs : List Slab) (values : List Values) (k : ℕ) → AllZip (HasValues d) slabs values
    → k < length slabs → Piece d slabs (flat_map bytes_of values) k
piece_at d [] values k all less = absurd (omega (arith, less))
piece_at d (b ∷ slabs) [] k all less = absurd all
piece_at d (b ∷ slabs) (v ∷ values) zero all less =
    let rest = flat_map bytes_of values in
    let long : length (bytes_of v) ≡ size_in d.schema b = length_slab d.schema.dims b.var v all.0.slab_is in
    record {
      values = v;
      has = all.0;
      room = omega (arith, long, length-append (bytes_of v) rest);
      is = take_at (bytes_of v) rest (size_in d.schema b) long;
    }
piece_at d (b ∷ slabs) (v ∷ values) (suc k) all less =
    let rest = flat_map bytes_of values in
    let size = size_in d.schema in
    let c = get_or slabs k no_slab in
    let before = sum_by size (take k slabs) in
    let p = piece_at d slabs values k all.1 (omega (arith, less)) in
    let long : length (bytes_of v) ≡ size b = length_slab d.schema.dims b.var v all.0.slab_is in
    let sum : sum_by size (b ∷ take k slabs) ≡ size b + before = sum_by-cons size b (take k slabs) in
    let from : sum_by size (b ∷ take k slabs) ≡ length (bytes_of v) + before = omega (arith, sum, long) in
    record {
      values = p.values;
      has = p.has;
      room = omega (arith, p.room, from, length-append (bytes_of v) rest);
      is = ap (λ (n : ℕ). take (size c) (drop n (bytes_of v ++ rest))) from
          ∙ ap (take (size c)) (drop-append-add (bytes_of v) rest before) ∙ p.is;
    }

-- ---- in a placed file

module _ (p : Placed) (keeps : KeepsRules p) (n r : ℕ) (has : HasSlab p n r) where
  abbrev x : PlacedVar
  x = var_at (vars_of p) n

  within : NotTruncated (file_length_of p) (record_size_of_file p) (records_of_file p) x.extent
  within =
      subst (NotTruncated (file_length_of p) (record_size_of_file p) (records_of_file p))
      (get_or-map (λ (y : PlacedVar). y.extent) (vars_of p) n no_var no_var.extent has.there)
      (all_at (NotTruncated (file_length_of p) (record_size_of_file p) (records_of_file p)) (extents_of_file p) n
      no_var.extent (omega (arith, length-map (vars_of p) (λ (y : PlacedVar). y.extent), has.there))
      keeps.rules.not_truncated)

  last_ends : (records : ℕ) → LastNotTruncated (file_length_of p) (record_size_of_file p) records x.extent → r < records
      → x.extent.begin + r * record_size_of_file p + x.extent.slab ≤ file_length_of p
  last_ends zero last less = absurd (omega (arith, less))
  last_ends (suc m) last less = omega (
    arith,
    last,
    mul-le r (record_size_of_file p) m (record_size_of_file p) (omega (arith, less)) (omega arith),
  )

  by_kind : (t : Bool) → x.extent.is_record ≡ t
      → ByKind t (LastNotTruncated (file_length_of p) (record_size_of_file p) (records_of_file p) x.extent)
      (end x.extent ≤ file_length_of p)
      → slab_begin (record_size_of_file p) x r + x.extent.slab ≤ file_length_of p
  by_kind true is last =
      let here : slab_record x r ≡ r = ap (λ (t : Bool). if t then r else 0) is in
      omega (
        arith,
        last_ends (records_of_file p) last (has.in_records is),
        ap (λ (m : ℕ). m * record_size_of_file p) here,
      )
  by_kind false is last =
      let here : slab_record x r ≡ 0 = ap (λ (t : Bool). if t then r else 0) is in
      omega (arith, last, ap (λ (m : ℕ). m * record_size_of_file p) here)

  slab_ends : slab_begin (record_size_of_file p) x r + x.extent.slab ≤ file_length_of p
  slab_ends = by_kind x.extent.is_record refl within

-- ---- of a completed file

module _ (one : OneHeader) (s : Schema) (bytes file : List ℕ) (limit : ℕ) (p : Placed) (keeps : KeepsRules p)
    (done : IsCompleted s bytes file) (passes : PassesUnnoted file limit s) (t : Schema) (opens : Opens file limit t p)
    (k : ℕ) (less : k < length (slabs_of s)) where
  abbrev d : Dataset
  d = dataset_of s bytes

  abbrev b : Slab
  b = slab_at s k

  abbrev places : List Place
  places = standard_places s

  all : HoldsAll file limit places d
  all = record {
    header = passes.passes_as.header;
    passes = passes.passes_as.passes;
    schema_is = passes.passes_as.schema_is;
    places_are = passes.passes_as.places_are;
    holds = done.holds;
  }

  piece : Piece d (slabs_of s) bytes k
  piece = subst (λ (l : List ℕ). Piece d (slabs_of s) l k) done.values
      (piece_at d (slabs_of s) (in_order d) k (all_have_values d done.dataset) less)

  many : length places ≡ length s.vars
  many = many_places one file limit places d t p all opens

  size_is : record_size_of_file p ≡ record_size_of s
  size_is = opened_size one file limit places d t p all opens

  vars_are : vars_of p ≡ vars_of_dataset d places
  vars_are = opened_vars one file limit places d t p all opens done.dataset.counted

  placed : PlacedSlab s (vars_of p) b
  placed = subst (λ (l : List PlacedVar). PlacedSlab s l b) (sym vars_are) (placed_slab s b piece.has.among places many)

  has : HasSlab p b.number b.in_record
  has = record {
    there = placed.there;
    in_records = λ is. by is piece.has.among.kind;
  }
    where
      by : (var_at (vars_of p) b.number).extent.is_record ≡ true
          → ((is_record_var s.dims b.var ≡ false) × (b.in_record ≡ 0))
          ⊎ ((is_record_var s.dims b.var ≡ true) × (b.in_record < known s.count)) → b.in_record < records_of_file p
      by is (inl fixed) = absurd (cc (sym is ∙ placed.record_is ∙ fixed.0))
      by is (inr records) =
          omega (arith, records.1, opened_records one file limit places d t p all opens done.dataset.counted)

  below : b.number < length s.vars
  below = omega (
    arith,
    piece.has.among.number_is,
    ap (λ (l : List Var). length l) piece.has.among.joined,
    length-append piece.has.among.front (b.var ∷ piece.has.among.after),
  )

  -- where it ends in the file its bytes are those of its values
  abbrev IsHeld : (size : ℕ) → List PlacedVar → Type 0
  IsHeld size vars = slab_begin size (var_at vars b.number) b.in_record + (var_at vars b.number).extent.slab ≤ length file
      → bytes_at file (slab_begin size (var_at vars b.number) b.in_record) (var_at vars b.number).extent.slab
      ≡ bytes_of piece.values

  held : IsHeld (record_size_of_file p) (vars_of p)
  held =
      subst (λ (l : List PlacedVar). IsHeld (record_size_of_file p) l) (sym vars_are)
      (subst (λ (n : ℕ). IsHeld n (vars_of_dataset d places)) (sym size_is)
      (λ room. slab_is_held file (record_size_of s) d b piece.values piece.has places many room
      (λ index inside. done.holds b.number index below inside)))

  slab_reads : SlabReads file p s bytes k
  slab_reads = record {
    has = has;
    long = placed.slab_is;
    whole = ap (λ (u : XType). slab s.dims b.var % size_of u) placed.xtype_is
        ∙ whole_by b.var.xtype (slab s.dims b.var) (elements s.dims b.var) refl;
    room = piece.room;
    next = up_to s (slabs_of s) k less;
    there = held (omega (arith, slab_ends p keeps b.number b.in_record has, opens.placed_is.length_is)) ∙ sym piece.is;
  }

-- the same where it is known that the file is a completed one, and no more
module _ (one : OneHeader) (s : Schema) (bytes file : List ℕ) (limit : ℕ) (p : Placed) (keeps : KeepsRules p)
    (done : ∥ IsCompleted s bytes file ∥₁) (within : length (header_of s) ≤ limit) (t : Schema)
    (opens : Opens file limit t p) (k : ℕ) (less : k < length (slabs_of s)) where
  from : IsCompleted s bytes file → SlabReads file p s bytes k
  from c = slab_reads one s bytes file limit p keeps c (c.passes limit within) t opens k less

  pub reads_there : SlabReads file p s bytes k
  reads_there = record {
    has = record {
      there = ∥∥₁_elim done (hlevel props) (λ (c : IsCompleted s bytes file). (from c).has.there);
      in_records = λ is. ∥∥₁_elim done (hlevel props) (λ (c : IsCompleted s bytes file). (from c).has.in_records is);
    };
    long = ∥∥₁_elim done (hlevel props) (λ (c : IsCompleted s bytes file). (from c).long);
    whole = ∥∥₁_elim done (hlevel props) (λ (c : IsCompleted s bytes file). (from c).whole);
    room = ∥∥₁_elim done (hlevel props) (λ (c : IsCompleted s bytes file). (from c).room);
    next = ∥∥₁_elim done (hlevel props) (λ (c : IsCompleted s bytes file). (from c).next);
    there = ∥∥₁_elim done (hlevel props) (λ (c : IsCompleted s bytes file). (from c).there);
  }
