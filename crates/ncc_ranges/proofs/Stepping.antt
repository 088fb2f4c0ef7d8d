-- One dimension after the other: the steps of a selection.
use Rattle.std.proofs.Common.{◌≡◌, ℕ, zero, suc, ◌+◌, ◌-◌, ◌*◌, ◌<◌, ◌≤◌, eqb, cond, Bool, true, false, List, [], ◌∷◌, ◌++◌, map, length, get_or, drop, take, refl, sym, ap, subst, ◌∙◌, arith, append_assoc}
use Rattle.std.specs.List.{AllByRecursion, range_with_len}
use Rattle.std.specs.Prelude.{◌==◌}
use Rattle.std.proofs.lemmas.Bool.{eqb-false, eqb-true}
use Rattle.std.proofs.lemmas.List.{take_all}
use Rattle.std.proofs.lemmas.Nat.{mul-le}
use Rattle.std.proofs.lemmas.Simd.{map-map}
use Rattle.ncc_values.specs.XType.{size_of}
use Rattle.ncc_layout.specs.declared.placed_var.PlacedVar.{PlacedVar}
use Rattle.ncc_layout.specs.Sizes.{product}
use Rattle.ncc_layout.specs.Elements.{Inside, place_of}
use Rattle.ncc_slab.specs.declared.slab.Slab.{Slab}
use Rattle.ncc_slab.specs.Axes.{dot, inner_units, last_of, times, axes_of, offset_at, base_of, units_of, ArePositive, HasRank}
use Rattle.ncc_slab.specs.Refusals.{along, EndsBy, Fits, FitsIn}
use Rattle.ncc_slab.specs.Selected.{places_of}
use Rattle.ncc_slab.specs.Selection.{index_lists, index_of, indices_of}
use Rattle.ncc_slab.proofs.Lists.{all_map, lists_inside}
use Rattle.ncc_slab.proofs.Offsets.{offsets_are, offset_is, places_are, length-units}
use Rattle.ncc_slab.proofs.Ranges.{map_same}
use Rattle.ncc_slab.proofs.Searches.{next}
use Rattle.ncc_ranges.specs.Steps.{steps_along, places_by, all_steps_of}

-- ---- the last index along a dimension

pub last_below : (l s c d : ℕ) → EndsBy l s c d → 0 < c → s + (c - 1) * d < l
last_below l s zero d ends some = absurd (omega (arith, some))
last_below l s (suc n) d ends some = let less : suc n - 1 ≡ n = omega arith in omega (arith, ap (λ (m : ℕ). m * d) less, ends)

pub lengths_positive : (ls ss cs ds : List ℕ) → HasRank ls ss cs ds → AllByRecursion Fits (along ls ss cs ds) → ArePositive cs → ArePositive ls
lengths_positive [] ss cs ds rank fit some = tt
lengths_positive (l ∷ ls) [] cs ds rank fit some = absurd (omega (arith, rank.starts))
lengths_positive (l ∷ ls) (s ∷ ss) [] ds rank fit some = absurd (omega (arith, rank.counts))
lengths_positive (l ∷ ls) (s ∷ ss) (c ∷ cs) [] rank fit some = absurd (omega (arith, rank.strides))
lengths_positive (l ∷ ls) (s ∷ ss) (c ∷ cs) (d ∷ ds) rank fit some =
    let more : HasRank ls ss cs ds = record { starts = omega (arith, rank.starts); counts = omega (arith, rank.counts); strides = omega (arith, rank.strides) } in
    (omega (arith, last_below l s c d fit.0.1 some.0), lengths_positive ls ss cs ds more fit.1 some.1)

pub not_empty : (ls now : List ℕ) → now ≡ ls → false ≡ (length now == 0) → 0 < length ls
not_empty ls now is some = omega (arith, eqb-false (length now) 0 (sym some), ap length is)

pub rank_of : (ls : List ℕ) (s : Slab) → FitsIn ls s → HasRank ls s.start s.count s.stride
rank_of ls s fits = record { starts = fits.starts; counts = fits.counts; strides = fits.strides }

pub all_but_first : (ls : List ℕ) → ArePositive ls → ArePositive (take (length ls - 1) (drop 1 ls))
all_but_first [] all = tt
all_but_first (l ∷ ls) all =
    let long : length (l ∷ ls) - 1 ≡ length ls = omega arith in
    subst (λ (n : ℕ). ArePositive (take n ls)) (sym long) (subst ArePositive (sym (take_all (length ls) ls (omega arith))) all.1)

-- ---- from one dimension to the next

module _ (size : ℕ) (ls ss cs ds : List ℕ) (rank : HasRank ls ss cs ds) (k : ℕ) (lt : k < length ls) where
  in_start : k < length ss
  in_start = omega (arith, rank.starts, lt)

  in_count : k < length cs
  in_count = omega (arith, rank.counts, lt)

  in_stride : k < length ds
  in_stride = omega (arith, rank.strides, lt)

  fits_split : AllByRecursion Fits (along (drop k ls) (drop k ss) (drop k cs) (drop k ds))
      → AllByRecursion Fits (along (get_or ls k 0 ∷ drop (k + 1) ls) (get_or ss k 0 ∷ drop (k + 1) ss) (get_or cs k 0 ∷ drop (k + 1) cs) (get_or ds k 0 ∷ drop (k + 1) ds))
  fits_split fits =
      subst (λ (l : List ℕ). AllByRecursion Fits (along (get_or ls k 0 ∷ drop (k + 1) ls) (get_or ss k 0 ∷ drop (k + 1) ss) (get_or cs k 0 ∷ drop (k + 1) cs) l)) (next ds k in_stride)
      (subst (λ (l : List ℕ). AllByRecursion Fits (along (get_or ls k 0 ∷ drop (k + 1) ls) (get_or ss k 0 ∷ drop (k + 1) ss) l (drop k ds))) (next cs k in_count)
      (subst (λ (l : List ℕ). AllByRecursion Fits (along (get_or ls k 0 ∷ drop (k + 1) ls) l (drop k cs) (drop k ds))) (next ss k in_start)
      (subst (λ (l : List ℕ). AllByRecursion Fits (along l (drop k ss) (drop k cs) (drop k ds))) (next ls k lt) fits)))

  pub index_below : AllByRecursion Fits (along (drop k ls) (drop k ss) (drop k cs) (drop k ds)) → 0 < get_or cs k 0 → get_or ss k 0 + (get_or cs k 0 - 1) * get_or ds k 0 < get_or ls k 0
  index_below fits some = last_below (get_or ls k 0) (get_or ss k 0) (get_or cs k 0) (get_or ds k 0) (fits_split fits).0.1 some

  pub fits_left : AllByRecursion Fits (along (drop k ls) (drop k ss) (drop k cs) (drop k ds))
      → AllByRecursion Fits (along (drop (k + 1) ls) (drop (k + 1) ss) (drop (k + 1) cs) (drop (k + 1) ds))
  fits_left fits = (fits_split fits).1

  abbrev unit : ℕ
  unit = product (drop (k + 1) ls) * size

  abbrev step : ℕ
  step = cond (eqb (get_or cs k 0) 1) 0 (get_or ds k 0 * unit)

  steps_split : steps_along (drop k cs) (times (inner_units size (drop k ls)) (drop k ds))
      ≡ step ∷ steps_along (drop (k + 1) cs) (times (inner_units size (drop (k + 1) ls)) (drop (k + 1) ds))
  steps_split =
      ap (λ (l : List ℕ). steps_along (drop k cs) (times (inner_units size l) (drop k ds))) (next ls k lt)
      ∙ ap (λ (l : List ℕ). steps_along (drop k cs) (times (unit ∷ inner_units size (drop (k + 1) ls)) l)) (next ds k in_stride)
      ∙ ap (λ (l : List ℕ). steps_along l (get_or ds k 0 * unit ∷ times (inner_units size (drop (k + 1) ls)) (drop (k + 1) ds))) (next cs k in_count)

  pub step_pushed : (steps pushed : List ℕ) (s u : ℕ) → u ≡ unit → s ≡ cond (eqb (get_or cs k 0) 1) 0 (get_or ds k 0 * u) → pushed ≡ steps ++ s ∷ []
      → pushed ++ steps_along (drop (k + 1) cs) (times (inner_units size (drop (k + 1) ls)) (drop (k + 1) ds))
      ≡ steps ++ steps_along (drop k cs) (times (inner_units size (drop k ls)) (drop k ds))
  step_pushed steps pushed s u unit_is step_is is =
      let more = steps_along (drop (k + 1) cs) (times (inner_units size (drop (k + 1) ls)) (drop (k + 1) ds)) in
      ap (λ (l : List ℕ). l ++ more) is
      ∙ append_assoc steps (s ∷ []) more
      ∙ ap (λ (n : ℕ). steps ++ n ∷ more) (step_is ∙ ap (λ (n : ℕ). cond (eqb (get_or cs k 0) 1) 0 (get_or ds k 0 * n)) unit_is)
      ∙ ap (λ (l : List ℕ). steps ++ l) (sym steps_split)

-- ---- all places

length-times : (us ds : List ℕ) → length ds ≡ length us → length (times us ds) ≡ length us
length-times [] ds e = refl
length-times (u ∷ us) [] e = absurd (omega (arith, e))
length-times (u ∷ us) (d ∷ ds) e = omega (arith, length-times us ds (omega (arith, e)))

length-steps_along : (cs ds : List ℕ) → length ds ≡ length cs → length (steps_along cs ds) ≡ length cs
length-steps_along [] ds e = refl
length-steps_along (c ∷ cs) [] e = absurd (omega (arith, e))
length-steps_along (c ∷ cs) (d ∷ ds) e = omega (arith, length-steps_along cs ds (omega (arith, e)))

-- a single index is 0, so its step is of no matter
one_index : (b : Bool) (c d k : ℕ) → eqb c 1 ≡ b → k < c → k * cond b 0 d ≡ k * d
one_index true c d k e lt = let none : k ≡ 0 = omega (arith, eqb-true c 1 e, lt) in omega (arith, ap (λ (n : ℕ). n * d) none)
one_index false c d k e lt = refl

same_offset : (cs ds ks : List ℕ) → length ds ≡ length cs → Inside cs ks → dot ds ks ≡ dot (steps_along cs ds) ks
same_offset [] [] [] e inside = refl
same_offset [] ds (k ∷ ks) e inside = absurd inside
same_offset [] (d ∷ ds) [] e inside = absurd (omega (arith, e))
same_offset (c ∷ cs) ds [] e inside = absurd inside
same_offset (c ∷ cs) [] (k ∷ ks) e inside = absurd (omega (arith, e))
same_offset (c ∷ cs) (d ∷ ds) (k ∷ ks) e inside =
    omega (arith, one_index (eqb c 1) c d k refl inside.0, same_offset cs ds ks (omega (arith, e)) inside.1)

below_last : (us ss cs ds ks : List ℕ) → Inside cs ks → dot us (index_of ss ds ks) ≤ dot us (last_of ss cs ds)
below_last us [] [] ds [] inside = omega arith
below_last us (s ∷ ss) [] [] [] inside = omega arith
below_last us (s ∷ ss) [] (d ∷ ds) [] inside = omega arith
below_last us ss [] ds (k ∷ ks) inside = absurd inside
below_last us ss (c ∷ cs) ds [] inside = absurd inside
below_last us [] (c ∷ cs) ds (k ∷ ks) inside = omega arith
below_last us (s ∷ ss) (c ∷ cs) [] (k ∷ ks) inside = omega arith
below_last [] (s ∷ ss) (c ∷ cs) (d ∷ ds) (k ∷ ks) inside = omega arith
below_last (u ∷ us) (s ∷ ss) (c ∷ cs) (d ∷ ds) (k ∷ ks) inside =
    let far : k * d ≤ (c - 1) * d = mul-le k d (c - 1) d (omega (arith, inside.0)) (omega arith) in
    omega (arith, mul-le (s + k * d) u (s + (c - 1) * d) u (omega (arith, far)) (omega arith), below_last us ss cs ds ks inside.1)

module _ (record_size : ℕ) (x : PlacedVar) (s : Slab) (rank : HasRank x.shape s.start s.count s.stride) where
  abbrev us : List ℕ
  us = units_of record_size x

  abbrev distances : List ℕ
  distances = times us s.stride

  abbrev base : ℕ
  base = base_of record_size x s

  as_many : length distances ≡ length s.count
  as_many =
      let long = length-units record_size (size_of x.xtype) x.extent.is_record x.shape in
      length-times us s.stride (rank.strides ∙ sym long) ∙ long ∙ sym rank.counts

  pub rank_is : length (all_steps_of record_size x s) ≡ length x.shape
  rank_is = length-steps_along s.count distances as_many ∙ rank.counts

  by_distances : places_of record_size x s ≡ map (λ (ks : List ℕ). base + dot distances ks) (index_lists s.count)
  by_distances =
      places_are record_size x s rank
      ∙ sym (map-map (λ (n : ℕ). base + n) (offset_at (axes_of s.count distances)) (range_with_len 0 (product s.count)))
      ∙ ap (map (λ (n : ℕ). base + n)) (sym (offsets_are s.count distances as_many))
      ∙ map-map (λ (n : ℕ). base + n) (dot distances) (index_lists s.count)

  pub by_steps : places_of record_size x s ≡ places_by base (all_steps_of record_size x s) s.count
  by_steps =
      by_distances
      ∙ map_same (λ (ks : List ℕ). base + dot distances ks) (λ (ks : List ℕ). base + dot (all_steps_of record_size x s) ks) (Inside s.count)
      (λ ks inside. ap (λ (n : ℕ). base + n) (same_offset s.count distances ks as_many inside)) (index_lists s.count) (lists_inside s.count)

  -- ---- each element ends by the end of the last

  place_ends : (file size : ℕ) → x.extent.begin + dot us (last_of s.start s.count s.stride) + size ≤ file → (ks : List ℕ) → Inside s.count ks → place_of record_size x (index_of s.start s.stride ks) + size ≤ file
  place_ends file size last ks inside =
      let offset = offset_is record_size (size_of x.xtype) x.extent.is_record x.shape (index_of s.start s.stride ks) in
      omega (arith, last, offset, below_last us s.start s.count s.stride ks inside)

  pub all_end : (file size : ℕ) → x.extent.begin + dot us (last_of s.start s.count s.stride) + size ≤ file → AllByRecursion (λ place. place + size ≤ file) (places_of record_size x s)
  all_end file size last =
      all_map (place_of record_size x) (λ (place : ℕ). place + size ≤ file) (λ (i : List ℕ). place_of record_size x i + size ≤ file) (λ i ends. ends) (indices_of s)
      (all_map (index_of s.start s.stride) (λ (i : List ℕ). place_of record_size x i + size ≤ file) (Inside s.count) (place_ends file size last) (index_lists s.count) (lists_inside s.count))
