-- The places of a selection, each by its number.
use Rattle.std.proofs.Common.{◌≡◌, ℕ, zero, suc, ◌+◌, ◌*◌, ◌%◌, ◌<◌, ◌≤◌, eqb, cond, Bool, true, false, ◌⊎◌, inl, inr, List, [], ◌∷◌, ◌++◌, map, length, refl, sym, ap, ◌∙◌, arith}
use Rattle.std.specs.List.{flat_map, range_with_len}
use Rattle.std.proofs.Math.Nat.{mul_assoc, add-mul}
use Rattle.std.proofs.lemmas.Bool.{eqb-true}
use Rattle.std.proofs.lemmas.List.{map-append, length-map}
use Rattle.std.proofs.lemmas.Simd.{map-map}
use Rattle.std.proofs.lemmas.Nat.{div-mul-add, mod-mul-add}
use Rattle.ncc_values.specs.XType.{size_of}
use Rattle.ncc_layout.specs.declared.placed_var.PlacedVar.{PlacedVar}
use Rattle.ncc_layout.specs.Sizes.{product}
use Rattle.ncc_layout.specs.Elements.{Inside, row_major, offset_in, place_of}
use Rattle.ncc_slab.specs.declared.axis.Axis.{Axis}
use Rattle.ncc_slab.specs.declared.slab.Slab.{Slab}
use Rattle.ncc_slab.specs.Selection.{index_lists, index_of, indices_of}
use Rattle.ncc_slab.specs.Selected.{places_of}
use Rattle.ncc_slab.specs.Axes.{offset_at, places_from, axes_of, inner_units, units, dot, times, units_of, base_of, selection_axes, HasRank}
use Rattle.ncc_slab.proofs.Lists.{lists_inside, count_is_product}
use Rattle.ncc_slab.proofs.Ranges.{map-range_split, map-range_shift, map_same}

-- ---- one dimension more

split : (b : Bool) → (b ≡ true) ⊎ (b ≡ false)
split true = inl refl
split false = inr refl

module _ (axes : List Axis) (a : Axis) (c : ℕ) where
  -- the n-th element, by its index along the dimension and its number after it
  at_index : (k r : ℕ) → k < c → r < a.width → offset_at (cond (eqb c 1) axes (a ∷ axes)) (k * a.width + r) ≡ k * a.step + offset_at axes r
  at_index k r less below =
      elim (split (eqb c 1)) [
        | inl e ↦
            let none : k ≡ 0 = omega (arith, eqb-true c 1 e, less) in
            let first : k * a.width + r ≡ r = ap (λ (n : ℕ). n * a.width + r) none ∙ omega arith in
            let still : offset_at axes r ≡ k * a.step + offset_at axes r = omega (arith, ap (λ (n : ℕ). n * a.step) none) in
            ap (λ (b : Bool). offset_at (cond b axes (a ∷ axes)) (k * a.width + r)) e ∙ ap (offset_at axes) first ∙ still
        | inr e ↦
            ap (λ (b : Bool). offset_at (cond b axes (a ∷ axes)) (k * a.width + r)) e
            ∙ ap (λ (n : ℕ). n * a.step + offset_at axes ((k * a.width + r) % a.width)) (div-mul-add k a.width r below)
            ∙ ap (λ (n : ℕ). k * a.step + offset_at axes n) (mod-mul-add k a.width r below)
      ]

module _ (cs ds : List ℕ) (c d : ℕ) (same : map (dot ds) (index_lists cs) ≡ map (offset_at (axes_of cs ds)) (range_with_len 0 (product cs))) where
  abbrev axis : Axis
  axis = record { step = d; width = product cs }

  abbrev offset : ℕ → ℕ
  offset = offset_at (cond (eqb c 1) (axes_of cs ds) (axis ∷ axes_of cs ds))

  row : (k : ℕ) → k < c → map (dot (d ∷ ds)) (map (λ (ks : List ℕ). k ∷ ks) (index_lists cs)) ≡ map offset (range_with_len (k * product cs) (product cs))
  row k less =
      let at_start : k * product cs ≡ k * product cs + 0 = omega arith in
      map-map (dot (d ∷ ds)) (λ (ks : List ℕ). k ∷ ks) (index_lists cs)
      ∙ sym (map-map (λ (n : ℕ). k * d + n) (dot ds) (index_lists cs))
      ∙ ap (map (λ (n : ℕ). k * d + n)) same
      ∙ map-map (λ (n : ℕ). k * d + n) (offset_at (axes_of cs ds)) (range_with_len 0 (product cs))
      ∙ sym (map-range_shift offset (λ (r : ℕ). k * d + offset_at (axes_of cs ds) r) (k * product cs) 0 (product cs)
      (λ r low high. at_index (axes_of cs ds) axis c k r less (omega (arith, high))))
      ∙ ap (λ (n : ℕ). map offset (range_with_len n (product cs))) (sym at_start)

  rows : (a m total : ℕ) → total ≡ m * product cs → a + m ≤ c
      → map (dot (d ∷ ds)) (flat_map (λ k. map (λ (ks : List ℕ). k ∷ ks) (index_lists cs)) (range_with_len a m)) ≡ map offset (range_with_len (a * product cs) total)
  rows a zero total is le =
      let none : 0 ≡ total = omega (arith, is) in
      ap (λ (n : ℕ). map offset (range_with_len (a * product cs) n)) none
  rows a (suc m) total is le =
      let here = map (λ (ks : List ℕ). a ∷ ks) (index_lists cs) in
      let others = flat_map (λ k. map (λ (ks : List ℕ). k ∷ ks) (index_lists cs)) (range_with_len (a + 1) m) in
      let whole : product cs + m * product cs ≡ total = omega (arith, is) in
      let next : a * product cs + product cs ≡ (a + 1) * product cs = omega arith in
      map-append (dot (d ∷ ds)) here others
      ∙ ap (λ (l : List ℕ). l ++ map (dot (d ∷ ds)) others) (row a (omega (arith, le)))
      ∙ ap (λ (l : List ℕ). map offset (range_with_len (a * product cs) (product cs)) ++ l) (rows (a + 1) m (m * product cs) refl (omega (arith, le)))
      ∙ sym (map-range_split offset (a * product cs) (product cs) (m * product cs) ((a + 1) * product cs) next)
      ∙ ap (λ (n : ℕ). map offset (range_with_len (a * product cs) n)) whole

-- how far the elements lie, one after the other
pub offsets_are : (cs ds : List ℕ) → length ds ≡ length cs → map (dot ds) (index_lists cs) ≡ map (offset_at (axes_of cs ds)) (range_with_len 0 (product cs))
offsets_are [] [] e = refl
offsets_are [] (d ∷ ds) e = absurd (omega (arith, e))
offsets_are (c ∷ cs) [] e = absurd (omega (arith, e))
offsets_are (c ∷ cs) (d ∷ ds) e =
    let start : 0 * product cs ≡ 0 = omega arith in
    rows cs ds c d (offsets_are cs ds (omega (arith, e))) 0 c (c * product cs) refl (omega arith)
    ∙ ap (λ (n : ℕ). map (offset cs ds c d (offsets_are cs ds (omega (arith, e)))) (range_with_len n (c * product cs))) start

-- ---- the place of an index list

inner_offset : (size : ℕ) (ls is : List ℕ) → row_major ls is * size ≡ dot (inner_units size ls) is
inner_offset size [] is = omega arith
inner_offset size (l ∷ ls) [] = omega arith
inner_offset size (l ∷ ls) (i ∷ is) =
    add-mul (i * product ls) (row_major ls is) size
    ∙ ap (λ (n : ℕ). n + row_major ls is * size) (mul_assoc i (product ls) size)
    ∙ ap (λ (n : ℕ). i * (product ls * size) + n) (inner_offset size ls is)

pub offset_is : (record_size size : ℕ) (b : Bool) (ls is : List ℕ) → offset_in record_size size b ls is ≡ dot (units record_size size b ls) is
offset_is record_size size true [] is = refl
offset_is record_size size true (n ∷ ls) [] = refl
offset_is record_size size true (n ∷ ls) (i ∷ is) = ap (λ (m : ℕ). i * record_size + m) (inner_offset size ls is)
offset_is record_size size false ls is = inner_offset size ls is

-- from the first selected element
from_first : (us ss ds ks : List ℕ) → length ss ≡ length us → length ds ≡ length us → length ks ≡ length us → dot us (index_of ss ds ks) ≡ dot us ss + dot (times us ds) ks
from_first [] ss ds ks a b e = omega arith
from_first (u ∷ us) [] ds ks a b e = absurd (omega (arith, a))
from_first (u ∷ us) (s ∷ ss) [] ks a b e = absurd (omega (arith, b))
from_first (u ∷ us) (s ∷ ss) (d ∷ ds) [] a b e = absurd (omega (arith, e))
from_first (u ∷ us) (s ∷ ss) (d ∷ ds) (k ∷ ks) a b e =
    let more : (s + k * d) * u ≡ s * u + k * (d * u) = add-mul s (k * d) u ∙ ap (λ (n : ℕ). s * u + n) (mul_assoc k d u) in
    omega (arith, more, from_first us ss ds ks (omega (arith, a)) (omega (arith, b)) (omega (arith, e)))

inside_long : (ls is : List ℕ) → Inside ls is → length is ≡ length ls
inside_long [] [] h = refl
inside_long [] (i ∷ is) h = absurd h
inside_long (l ∷ ls) [] h = absurd h
inside_long (l ∷ ls) (i ∷ is) h = omega (arith, inside_long ls is h.1)

length-inner_units : (size : ℕ) (ls : List ℕ) → length (inner_units size ls) ≡ length ls
length-inner_units size [] = refl
length-inner_units size (l ∷ ls) = omega (arith, length-inner_units size ls)

pub length-units : (record_size size : ℕ) (b : Bool) (ls : List ℕ) → length (units record_size size b ls) ≡ length ls
length-units record_size size true [] = refl
length-units record_size size true (n ∷ ls) = omega (arith, length-inner_units size ls)
length-units record_size size false ls = length-inner_units size ls

length-times : (us ds : List ℕ) → length ds ≡ length us → length (times us ds) ≡ length us
length-times [] ds e = refl
length-times (u ∷ us) [] e = absurd (omega (arith, e))
length-times (u ∷ us) (d ∷ ds) e = omega (arith, length-times us ds (omega (arith, e)))

-- ---- all places of a selection

pub places_are : (record_size : ℕ) (x : PlacedVar) (s : Slab) → HasRank x.shape s.start s.count s.stride
    → places_of record_size x s ≡ places_from (base_of record_size x s) (selection_axes record_size x s) 0 (product s.count)
places_are record_size x s rank =
    let us = units_of record_size x in
    let steps = times us s.stride in
    let base = base_of record_size x s in
    let long : length us ≡ length x.shape = length-units record_size (size_of x.xtype) x.extent.is_record x.shape in
    let at : (ks : List ℕ) → Inside s.count ks → place_of record_size x (index_of s.start s.stride ks) ≡ base + dot steps ks =
    λ ks inside. omega (
      arith,
      offset_is record_size (size_of x.xtype) x.extent.is_record x.shape (index_of s.start s.stride ks),
      from_first us s.start s.stride ks (rank.starts ∙ sym long) (rank.strides ∙ sym long) (inside_long s.count ks inside ∙ rank.counts ∙ sym long),
    ) in
    map-map (place_of record_size x) (index_of s.start s.stride) (index_lists s.count)
    ∙ map_same (λ (ks : List ℕ). place_of record_size x (index_of s.start s.stride ks)) (λ (ks : List ℕ). base + dot steps ks) (Inside s.count) at (index_lists s.count) (lists_inside s.count)
    ∙ sym (map-map (λ (n : ℕ). base + n) (dot steps) (index_lists s.count))
    ∙ ap (map (λ (n : ℕ). base + n)) (offsets_are s.count steps (length-times us s.stride (rank.strides ∙ sym long) ∙ long ∙ sym rank.counts))
    ∙ map-map (λ (n : ℕ). base + n) (offset_at (axes_of s.count steps)) (range_with_len 0 (product s.count))

none_of_none : {A : Type 0} (xs : List A) → length xs ≡ 0 → xs ≡ []
none_of_none [] e = refl
none_of_none (x ∷ xs) e = absurd (omega (arith, e))

pub no_places : (record_size : ℕ) (x : PlacedVar) (s : Slab) → product s.count ≡ 0 → [] ≡ places_of record_size x s
no_places record_size x s none =
    sym (none_of_none (places_of record_size x s) (length-map (indices_of s) (place_of record_size x) ∙ count_is_product s ∙ none))
