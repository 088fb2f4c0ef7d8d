-- A file with one more record holds the dataset with it.
use Rattle.std.proofs.Common.{◌≡◌, ◌⊎◌, ℕ, zero, suc, ◌+◌, ◌*◌, ◌<◌, ◌≤◌, inl, inr, ⊎_elim, Bool, true, false, List, [], ◌∷◌, ◌++◌, length, take, get_or, refl, sym, ap, subst, ◌∙◌, arith}
use Rattle.std.specs.Prelude.{if◌then◌else◌}
use Rattle.std.proofs.lemmas.List.{take_at}
use Rattle.ncc_values.specs.Values.{bytes_of}
use Rattle.ncc_values.specs.XType.{size_of}
use Rattle.ncc_values.specs.declared.values.Values.{Values}
use Rattle.ncc_schema.specs.declared.schema.Schema.{Schema}
use Rattle.ncc_schema.specs.declared.schema.Var.{Var}
use Rattle.ncc_schema.specs.Names.{StandsAt}
use Rattle.ncc_schema.specs.Schema.{Place, is_record_var}
use Rattle.ncc_layout.specs.declared.placed_var.PlacedVar.{PlacedVar}
use Rattle.ncc_layout.specs.Elements.{placed_var, placed_from, var_at, row_major, Inside}
use Rattle.ncc_layout.specs.Extents.{extents_of, extents_from, records_of}
use Rattle.ncc_layout.specs.Plans.{known}
use Rattle.ncc_layout.specs.Sizes.{inner, slab, record_vars, record_sum, record_size_of}
use Rattle.ncc_layout.specs.Standard.{PackedFrom}
use Rattle.ncc_build.specs.Dataset.{Dataset, IsDataset}
use Rattle.ncc_write.specs.Holds.{bytes_at, no_slab, before, vars_of, value_at, stored_at, HoldsValues}
use Rattle.ncc_write.specs.Records.{IsRecord, bytes_of_record, followed_by}
use Rattle.ncc_write.proofs.Holding.{element_read}
use Rattle.ncc_write.proofs.Indices.{var_placed}
use Rattle.ncc_write.proofs.PackedRecords.{packed_begin, slab_in_record}
use Rattle.ncc_write.proofs.Pieces.{split_at, stands_in}
use Rattle.ncc_write.proofs.SlabPlaces.{Placed}

-- ---- the records' list

get_front : (records : List (List Values)) (slabs : List Values) (r : ℕ) → r < length records
    → get_or (records ++ slabs ∷ []) r [] ≡ get_or records r []
get_front [] slabs r below = absurd (omega (arith, below))
get_front (v ∷ records) slabs zero below = refl
get_front (v ∷ records) slabs (suc r) below = get_front records slabs r (omega (arith, below))

get_last : (records : List (List Values)) (slabs : List Values)
    → get_or (records ++ slabs ∷ []) (length records) [] ≡ slabs
get_last [] slabs = refl
get_last (v ∷ records) slabs = get_last records slabs

below_or_last : (r k : ℕ) → r ≤ k → (r < k) ⊎ (k ≡ r)
below_or_last zero zero le = inr refl
below_or_last zero (suc k) le = inl (omega arith)
below_or_last (suc r) zero le = absurd (omega (arith, le))
below_or_last (suc r) (suc k) le = ⊎_elim (λ less. inl (omega (arith, less))) (λ same. inr (ap suc same))
    (below_or_last r k (omega (arith, le)))

-- ---- one variable

-- the bytes of each old element are as before, and the record's stand after the old records
pub record Grows (d : Dataset) (places : List Place) (old new : List ℕ) (begin : ℕ) (slabs : List Values) : Type 0 where
  pub same : (n : ℕ) (index : List ℕ) → n < length d.schema.vars → Inside (var_at (vars_of d places) n).shape index
      → stored_at new (record_size_of d.schema) (var_at (vars_of d places) n) index
      ≡ stored_at old (record_size_of d.schema) (var_at (vars_of d places) n) index
  pub added : StandsAt new (bytes_of_record d.schema slabs)
      (begin + known d.schema.count * record_size_of d.schema)

module _ (d : Dataset) (is : IsDataset d) (places : List Place) (old new : List ℕ) (begin : ℕ) (slabs : List Values)
    (fits : IsRecord d.schema slabs) (packed : PackedFrom begin (records_of (extents_of d.schema places)))
    (holds : HoldsValues old places d) (grows : Grows d places old new begin slabs)
    (front : List Var) (x : Var) (after : List Var) (joined : d.schema.vars ≡ front ++ x ∷ after)
    (qs : List Place) (q : Place) (later : List Place) (there : places ≡ qs ++ q ∷ later)
    (many : length front ≡ length qs) where
  abbrev s : Schema
  s = d.schema

  abbrev more : Dataset
  more = followed_by d (slabs ∷ [])

  abbrev n : ℕ
  n = length front

  abbrev var_in : (records : ℕ) → PlacedVar
  var_in records = placed_var s.dims records n x q

  var_is : (records : ℕ) → var_at (placed_from s.dims records 0 s.vars places) n ≡ var_in records
  var_is records =
      let none : 0 + n ≡ n = omega arith in
      ap (λ (vars : List Var). var_at (placed_from s.dims records 0 vars places) n) joined
      ∙ ap (λ (l : List Place). var_at (placed_from s.dims records 0 (front ++ x ∷ after) l) n) there
      ∙ var_placed s.dims records 0 front x after qs q later many
      ∙ ap (λ (m : ℕ). placed_var s.dims records m x q) none

  below : n < length s.vars
  below = subst (λ (l : List Var). n < length l) (sym joined) (short front x after)
    where
      short : (front : List Var) (x : Var) (after : List Var) → length front < length (front ++ x ∷ after)
      short [] x after = omega arith
      short (y ∷ front) x after = omega (arith, short front x after)

  -- an old element
  abbrev Kept : PlacedVar → Type 0
  Kept y = (index : List ℕ) → Inside y.shape index → stored_at new (record_size_of s) y index ≡ value_at d y n index

  kept : Kept (var_in (known s.count))
  kept = subst Kept (var_is (known s.count))
      (λ index inside. grows.same n index below inside ∙ holds n index below inside)

  front_is : take n s.vars ≡ front
  front_is = ap (take n) joined ∙ take_at front (x ∷ after) n refl

  -- the variable by its kind
  abbrev by_kind : (t : Bool) (records : ℕ) → PlacedVar
  by_kind t records = record {
    xtype = x.xtype;
    shape = if t then records ∷ inner s.dims x else inner s.dims x;
    extent = record { begin = q.begin; slab = slab s.dims x; variable = n; is_record = t };
  }

  abbrev Holds : PlacedVar → Type 0
  Holds y = (index : List ℕ) → Inside y.shape index → stored_at new (record_size_of s) y index ≡ value_at more y n index

  fixed_holds : Kept (by_kind false (known s.count)) → Holds (by_kind false (known s.count + 1))
  fixed_holds kept index inside = kept index inside

  -- an element of the record
  last_holds : is_record_var s.dims x ≡ true → (index : List ℕ) → Inside (inner s.dims x) index
      → stored_at new (record_size_of s) (by_kind true (known s.count + 1)) (known s.count ∷ index)
      ≡ value_at more (by_kind true (known s.count + 1)) n (known s.count ∷ index)
  last_holds kind index inside =
      let size = record_size_of s in
      let w = size_of x.xtype in
      let k = row_major (inner s.dims x) index * w in
      let number = length (record_vars s.dims front) in
      let there_is = slab_in_record s slabs fits front x after joined kind in
      let piece = get_or slabs number no_slab in
      let at = begin + known s.count * size + record_sum s.dims front in
      let begins : q.begin ≡ begin + record_sum s.dims front =
      packed_begin s.dims 0 begin front x after qs q later many kind
      (subst (λ (l : List Place). PackedFrom begin (records_of (extents_from s.dims 0 (front ++ x ∷ after) l))) there
      (subst (λ (l : List Var). PackedFrom begin (records_of (extents_from s.dims 0 l places))) joined packed)) in
      let placed : Placed s new x piece at = record {
        stands = stands_in new (bytes_of_record s slabs) (bytes_of piece) (begin + known s.count * size)
            (record_sum s.dims front) grows.added there_is.stands;
        slab_is = there_is.slab_is;
      } in
      let place : q.begin + (known s.count * size + k) ≡ at + k = omega (arith, begins) in
      let before_is : number ≡ before s true n = ap (λ (l : List Var). length (record_vars s.dims l)) (sym front_is) in
      let last : slabs ≡ get_or (d.records ++ slabs ∷ []) (known s.count) [] =
      sym (ap (λ (r : ℕ). get_or (d.records ++ slabs ∷ []) r []) (sym is.records_number) ∙ get_last d.records slabs) in
      ap (λ (m : ℕ). bytes_at new m w) place
      ∙ element_read s new x piece at index placed inside
      ∙ ap (λ (m : ℕ). bytes_at (bytes_of (get_or slabs m no_slab)) k w) before_is
      ∙ ap (λ (l : List Values). bytes_at (bytes_of (get_or l (before s true n) no_slab)) k w) last

  old_or_last : (r : ℕ) (index : List ℕ) → is_record_var s.dims x ≡ true → Kept (by_kind true (known s.count))
      → Inside (inner s.dims x) index → (r < known s.count) ⊎ (known s.count ≡ r)
      → stored_at new (record_size_of s) (by_kind true (known s.count + 1)) (r ∷ index)
      ≡ value_at more (by_kind true (known s.count + 1)) n (r ∷ index)
  old_or_last r index kind kept inside (inl less) =
      let old : get_or d.records r [] ≡ get_or (d.records ++ slabs ∷ []) r [] =
      sym (get_front d.records slabs r (omega (arith, less, is.records_number))) in
      kept (r ∷ index) (less, inside)
      ∙ ap (λ (l : List Values). bytes_at (bytes_of (get_or l (before s true n) no_slab))
      (row_major (inner s.dims x) index * size_of x.xtype) (size_of x.xtype)) old
  old_or_last r index kind kept inside (inr same) =
      subst (λ (m : ℕ). stored_at new (record_size_of s) (by_kind true (known s.count + 1)) (m ∷ index)
      ≡ value_at more (by_kind true (known s.count + 1)) n (m ∷ index)) same (last_holds kind index inside)

  holds_by : (t : Bool) → is_record_var s.dims x ≡ t → Kept (by_kind t (known s.count))
      → Holds (by_kind t (known s.count + 1))
  holds_by true kind kept [] inside = absurd inside
  holds_by true kind kept (r ∷ index) inside =
      old_or_last r index kind kept inside.1 (below_or_last r (known s.count) (omega (arith, inside.0)))
  holds_by false kind kept index inside = kept index inside

  pub all_hold : Holds (var_at (vars_of more places) n)
  all_hold = subst Holds (sym (var_is (known s.count + 1))) (holds_by (is_record_var s.dims x) refl kept)

-- ---- all variables

pub grown_holds : (d : Dataset) → IsDataset d → (places : List Place) → length places ≡ length d.schema.vars
    → (old new : List ℕ) (begin : ℕ) (slabs : List Values) → IsRecord d.schema slabs
    → PackedFrom begin (records_of (extents_of d.schema places)) → HoldsValues old places d
    → Grows d places old new begin slabs → HoldsValues new places (followed_by d (slabs ∷ []))
grown_holds d is places many old new begin slabs fits packed holds grows n index below inside =
    let more = followed_by d (slabs ∷ []) in
    let at = split_at d.schema.vars n below in
    let there = split_at places n (omega (arith, many, below)) in
    subst (λ (m : ℕ). (index : List ℕ) → Inside (var_at (vars_of more places) m).shape index
    → stored_at new (record_size_of d.schema) (var_at (vars_of more places) m) index
    ≡ value_at more (var_at (vars_of more places) m) m index) at.long
    (all_hold d is places old new begin slabs fits packed holds grows at.front at.item at.after at.joined
    there.front there.item there.after there.joined (at.long ∙ sym there.long)) index inside
