-- Where the slabs of a record stand in packed records, and in the record's bytes.
use Rattle.std.proofs.Common.{◌≡◌, ℕ, suc, ◌+◌, Bool, true, false, cond, List, [], ◌∷◌, ◌++◌, length, map, get_or, refl, sym, ap, subst, ◌∙◌, arith}
use Rattle.std.specs.Prelude.{filter, sum_by}
use Rattle.std.proofs.lemmas.List.Sums.{sum_by-cons}
use Rattle.ncc_values.specs.Values.{bytes_of}
use Rattle.ncc_values.specs.declared.values.Values.{Values}
use Rattle.ncc_schema.specs.declared.schema.Dim.{Dim}
use Rattle.ncc_schema.specs.declared.schema.Schema.{Schema}
use Rattle.ncc_schema.specs.declared.schema.Var.{Var}
use Rattle.ncc_schema.specs.Schema.{Place, is_record_var}
use Rattle.ncc_layout.specs.declared.extent.Extent.{Extent}
use Rattle.ncc_layout.specs.Elements.{placed_from}
use Rattle.ncc_layout.specs.Extents.{extent_of, extents_from, records_of}
use Rattle.ncc_layout.specs.Sizes.{up, slab, rounded, record_vars, record_sum}
use Rattle.ncc_layout.specs.Standard.{PackedFrom}
use Rattle.ncc_build.specs.Dataset.{AreSlabsOf}
use Rattle.ncc_write.specs.Holds.{no_slab}
use Rattle.ncc_write.specs.Records.{IsRecord, bytes_of_record, in_turn, whole_size}
use Rattle.ncc_write.proofs.FileLengths.{records_before}
use Rattle.ncc_write.proofs.Pieces.{stands_same}
use Rattle.ncc_write.proofs.SlabPlaces.{Placed, in_turn_at, filter_at}

-- the extents of placed variables
pub map_extents : (dims : List Dim) (records n : ℕ) (vars : List Var) (places : List Place)
    → map (λ x. x.extent) (placed_from dims records n vars places) ≡ extents_from dims n vars places
map_extents dims records n [] places = refl
map_extents dims records n (x ∷ vars) [] = refl
map_extents dims records n (x ∷ vars) (p ∷ places) = ap (λ (l : List Extent). extent_of dims n x p ∷ l)
    (map_extents dims records (suc n) vars places)

-- ---- begins

abbrev size_if : Bool → ℕ → ℕ
size_if true n = n
size_if false n = 0

sum_with : (t : Bool) (f : Var → ℕ) (y : Var) (ys : List Var)
    → sum_by f (cond t (y ∷ ys) ys) ≡ size_if t (f y) + sum_by f ys
sum_with true f y ys = sum_by-cons f y ys
sum_with false f y ys = omega arith

packed_first : (t : Bool) (e : Extent) (es : List Extent) (b : ℕ) → t ≡ true → PackedFrom b (cond t (e ∷ es) es)
    → e.begin ≡ b
packed_first true e es b is packed = packed.0
packed_first false e es b is packed = absurd (cc is)

packed_rest : (t : Bool) (e : Extent) (es : List Extent) (b : ℕ) → PackedFrom b (cond t (e ∷ es) es)
    → PackedFrom (b + size_if t (up e.slab)) es
packed_rest true e es b packed = packed.1
packed_rest false e es b packed =
    let same : b ≡ b + 0 = omega arith in
    subst (λ (n : ℕ). PackedFrom n es) same packed

-- a record variable of packed ones begins after those before it
pub packed_begin : (dims : List Dim) (m b : ℕ) (front : List Var) (x : Var) (after : List Var) (qs : List Place)
    (q : Place) (later : List Place) → length front ≡ length qs → is_record_var dims x ≡ true
    → PackedFrom b (records_of (extents_from dims m (front ++ x ∷ after) (qs ++ q ∷ later)))
    → q.begin ≡ b + record_sum dims front
packed_begin dims m b [] x after [] q later long kind packed =
    let first = packed_first (is_record_var dims x) (extent_of dims m x q)
    (records_of (extents_from dims (suc m) after later)) b kind packed in
    omega (arith, first)
packed_begin dims m b [] x after (p ∷ qs) q later long kind packed = absurd (omega (arith, long))
packed_begin dims m b (y ∷ front) x after [] q later long kind packed = absurd (omega (arith, long))
packed_begin dims m b (y ∷ front) x after (p ∷ qs) q later long kind packed =
    let t = is_record_var dims y in
    let rest = packed_begin dims (suc m) (b + size_if t (up (slab dims y))) front x after qs q later
    (omega (arith, long)) kind (packed_rest t (extent_of dims m y p)
    (records_of (extents_from dims (suc m) (front ++ x ∷ after) (qs ++ q ∷ later))) b packed) in
    omega (arith, rest, sum_with t (rounded dims) y (record_vars dims front))

-- ---- in the bytes of a record

pub slab_in_record : (s : Schema) (slabs : List Values) → IsRecord s slabs → (front : List Var) (x : Var)
    (after : List Var) → s.vars ≡ front ++ x ∷ after → is_record_var s.dims x ≡ true
    → Placed s (bytes_of_record s slabs) x (get_or slabs (length (record_vars s.dims front)) no_slab)
    (record_sum s.dims front)
slab_in_record s slabs fits front x after joined kind =
    let kept = record_vars s.dims front in
    let vars : record_vars s.dims s.vars ≡ kept ++ x ∷ record_vars s.dims after =
    ap (filter (is_record_var s.dims)) joined ∙ filter_at (is_record_var s.dims) front x after kind in
    let here : Placed s (in_turn s (kept ++ x ∷ record_vars s.dims after) slabs) x
    (get_or slabs (length kept) no_slab) (sum_by (whole_size s) kept) =
    in_turn_at s kept x (record_vars s.dims after) slabs
    (subst (λ (l : List Var). AreSlabsOf s.dims l slabs) vars fits) in
    let there = subst (λ (l : List Var). Placed s (in_turn s l slabs) x (get_or slabs (length kept) no_slab)
    (sum_by (whole_size s) kept)) (sym vars) here in
    record {
      stands = stands_same (bytes_of_record s slabs) (bytes_of (get_or slabs (length kept) no_slab))
          (sum_by (whole_size s) kept) (record_sum s.dims front)
          (records_before s front x (record_vars s.dims after) vars) there.stands;
      slab_is = there.slab_is;
    }
