-- The axes of dimensions whose indices lie so many bytes apart.
use Rattle.std.proofs.Common.{◌≡◌, ℕ, ◌+◌, ◌/◌, ◌^◌, ◌<◌, eqb, cond, Bool, List, [], ◌∷◌, ◌++◌, map, length, get_or, drop, refl, sym, ap, subst, ◌∙◌, arith, append_assoc}
use Rattle.std.specs.List.{AllByRecursion, range_with_len}
use Rattle.std.proofs.lemmas.Bool.{eq-eqb, ne_eqb}
use Rattle.std.proofs.lemmas.Simd.{map-map}
use Rattle.ncc_layout.specs.Sizes.{product}
use Rattle.ncc_slab.specs.declared.axis.Axis.{Axis}
use Rattle.ncc_slab.specs.Axes.{axes_of, dot, offset_at, place_at, places_from, ArePositive, HasRank}
use Rattle.ncc_slab.specs.Selection.{index_lists}
use Rattle.ncc_slab.proofs.Factors.{none_zero, zero_among}
use Rattle.ncc_slab.proofs.Offsets.{offsets_are}
use Rattle.ncc_slab.proofs.OneAxis as one
use Rattle.ncc_slab.proofs.Ranges.{all-range}
use Rattle.ncc_slab.proofs.Searches.{next}
use Rattle.ncc_ranges.specs.Steps.{places_by}

module _ (count steps : List ℕ) (rank : length steps ≡ length count) (k : ℕ) (lt : k < length count) (some : ArePositive (drop k count)) where
  abbrev c : ℕ
  c = get_or count k 0

  rank_is : HasRank count count count steps
  rank_is = record { starts = refl; counts = refl; strides = rank }

  pub counts_left : ArePositive (drop (k + 1) count)
  counts_left = one.counts_left 1 count count count steps rank_is k lt some some

  pub next_width : (old : ℕ) → old ≡ product (drop k count) → old / c ≡ product (drop (k + 1) count)
  next_width old is = one.next_width 1 count count count steps rank_is k lt some some old is

  abbrev axis : Axis
  axis = record { step = get_or steps k 0; width = product (drop (k + 1) count) }

  abbrev left : List Axis
  left = axes_of (drop (k + 1) count) (drop (k + 1) steps)

  axes_split : axes_of (drop k count) (drop k steps) ≡ cond (eqb c 1) left (axis ∷ left)
  axes_split =
      ap (λ (ds : List ℕ). axes_of (drop k count) ds) (next steps k (omega (arith, rank, lt)))
      ∙ ap (λ (cs : List ℕ). axes_of cs (get_or steps k 0 ∷ drop (k + 1) steps)) (next count k lt)

  pub axis_skipped : (axes : List Axis) → c ≡ 1 → axes ++ left ≡ axes ++ axes_of (drop k count) (drop k steps)
  axis_skipped axes is = ap (λ (more : List Axis). axes ++ more) (sym (axes_split ∙ ap (λ (b : Bool). cond b left (axis ∷ left)) (eq-eqb c 1 is)))

  pub axis_pushed : (axes pushed : List Axis) (w : ℕ) → w ≡ product (drop (k + 1) count) → pushed ≡ axes ++ record { step = get_or steps k 0; width = w } ∷ [] → (c ≡ 1 → ⊥)
      → pushed ++ left ≡ axes ++ axes_of (drop k count) (drop k steps)
  axis_pushed axes pushed w width_is is not =
      ap (λ (all : List Axis). all ++ left) is
      ∙ ap (λ (m : ℕ). (axes ++ record { step = get_or steps k 0; width = m } ∷ []) ++ left) width_is
      ∙ append_assoc axes (axis ∷ []) left
      ∙ ap (λ (more : List Axis). axes ++ more) (sym (axes_split ∙ ap (λ (b : Bool). cond b left (axis ∷ left)) (ne_eqb c 1 not)))

-- ---- the places of such axes

pub places_are : (base : ℕ) (count steps : List ℕ) → length steps ≡ length count → places_from base (axes_of count steps) 0 (product count) ≡ places_by base steps count
places_are base count steps rank =
    sym (map-map (λ (n : ℕ). base + n) (offset_at (axes_of count steps)) (range_with_len 0 (product count)))
    ∙ ap (map (λ (n : ℕ). base + n)) (sym (offsets_are count steps rank))
    ∙ map-map (λ (n : ℕ). base + n) (dot steps) (index_lists count)

-- counts whose product isn't 0
pub all_positive : (count : List ℕ) → (product count ≡ 0 → ⊥) → ArePositive count
all_positive count some = none_zero count (λ k lt is. some (zero_among count k lt is))

pub places_fit : (base : ℕ) (count steps : List ℕ) → length steps ≡ length count → AllByRecursion (λ place. place < 2 ^ 64) (places_by base steps count)
    → (n : ℕ) → n < product count → place_at base (axes_of count steps) n < 2 ^ 64
places_fit base count steps rank all n lt =
    let same : 0 + n ≡ n = omega arith in
    subst (λ (j : ℕ). place_at base (axes_of count steps) j < 2 ^ 64) same
    (all-range (place_at base (axes_of count steps)) (λ place. place < 2 ^ 64) 0 (product count)
    (subst (AllByRecursion (λ place. place < 2 ^ 64)) (sym (places_are base count steps rank)) all) n lt)

-- the axes of slices of these numbers
pub axes_for : (count count_now steps steps_now : List ℕ) (axes : List Axis) → count_now ≡ count → steps_now ≡ steps → axes ≡ axes_of count_now steps_now → axes ≡ axes_of count steps
axes_for count count_now steps steps_now axes c s is = is ∙ ap (λ (l : List ℕ). axes_of l steps_now) c ∙ ap (axes_of count) s
