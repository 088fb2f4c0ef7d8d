-- One dimension more on the way along the dimensions of a selection.
use Rattle.std.proofs.Common.{◌≡◌, ℕ, zero, suc, ◌+◌, ◌-◌, ◌*◌, ◌/◌, ◌<◌, ◌≤◌, eqb, cond, Bool, true, false, List, [], ◌∷◌, ◌++◌, length, get_or, drop, sym, ap, ◌∙◌, arith, mul_comm, append_assoc}
use Rattle.std.proofs.Math.Nat.{mul_assoc}
use Rattle.std.proofs.lemmas.Bool.{eq-eqb, ne_eqb}
use Rattle.std.proofs.lemmas.Nat.{div-mul-add, mul-le}
use Rattle.std.proofs.lemmas.List.{append-nil, drop_all}
use Rattle.ncc_layout.specs.Sizes.{product}
use Rattle.ncc_slab.specs.declared.axis.Axis.{Axis}
use Rattle.ncc_slab.specs.Axes.{axes_of, inner_units, dot, times, last_of, ArePositive, AreWide, HasRank}
use Rattle.ncc_slab.proofs.Searches.{next}
use Rattle.ncc_slab.proofs.Factors.{product_positive, product_split, split}

divided : (n p : ℕ) → 0 < n → n * p / n ≡ p
divided n p positive =
    let turned : n * p ≡ p * n + 0 = omega (arith, mul_comm n p) in
    ap (λ (m : ℕ). m / n) turned ∙ div-mul-add p n 0 positive

module _ (size : ℕ) (lengths start count stride : List ℕ) (rank : HasRank lengths start count stride) (k : ℕ) (lt : k < length lengths)
    (positive : ArePositive (drop k lengths)) (some : ArePositive (drop k count)) where
  abbrev l : ℕ
  l = get_or lengths k 0

  abbrev s : ℕ
  s = get_or start k 0

  abbrev c : ℕ
  c = get_or count k 0

  abbrev d : ℕ
  d = get_or stride k 0

  abbrev unit : ℕ
  unit = product (drop (k + 1) lengths) * size

  abbrev units_left : List ℕ
  units_left = inner_units size (drop (k + 1) lengths)

  in_count : k < length count
  in_count = omega (arith, rank.counts, lt)

  pub length_positive : 0 < l
  length_positive = (split lengths k lt positive).0

  pub count_positive : 0 < c
  count_positive = (split count k in_count some).0

  pub lengths_left : ArePositive (drop (k + 1) lengths)
  lengths_left = (split lengths k lt positive).1

  pub counts_left : ArePositive (drop (k + 1) count)
  counts_left = (split count k in_count some).1

  pub next_unit : (old : ℕ) → old ≡ product (drop k lengths) * size → old / l ≡ unit
  next_unit old is =
      let whole : old ≡ l * unit = is ∙ ap (λ (n : ℕ). n * size) (product_split lengths k lt positive) ∙ mul_assoc l (product (drop (k + 1) lengths)) size in
      ap (λ (n : ℕ). n / l) whole ∙ divided l unit length_positive

  pub next_width : (old : ℕ) → old ≡ product (drop k count) → old / c ≡ product (drop (k + 1) count)
  next_width old is =
      ap (λ (n : ℕ). n / c) (is ∙ product_split count k in_count some) ∙ divided c (product (drop (k + 1) count)) count_positive

  units_split : inner_units size (drop k lengths) ≡ unit ∷ units_left
  units_split = ap (inner_units size) (next lengths k lt)

  pub offset_split : dot (inner_units size (drop k lengths)) (drop k start) ≡ s * unit + dot units_left (drop (k + 1) start)
  offset_split =
      ap (λ (us : List ℕ). dot us (drop k start)) units_split
      ∙ ap (λ (is : List ℕ). dot (unit ∷ units_left) is) (next start k (omega (arith, rank.starts, lt)))

  pub last_split : dot (inner_units size (drop k lengths)) (last_of (drop k start) (drop k count) (drop k stride))
      ≡ (s + (c - 1) * d) * unit + dot units_left (last_of (drop (k + 1) start) (drop (k + 1) count) (drop (k + 1) stride))
  last_split =
      ap (λ (us : List ℕ). dot us (last_of (drop k start) (drop k count) (drop k stride))) units_split
      ∙ ap (λ (ss : List ℕ). dot (unit ∷ units_left) (last_of ss (drop k count) (drop k stride))) (next start k (omega (arith, rank.starts, lt)))
      ∙ ap (λ (cs : List ℕ). dot (unit ∷ units_left) (last_of (s ∷ drop (k + 1) start) cs (drop k stride))) (next count k in_count)
      ∙ ap (λ (ds : List ℕ). dot (unit ∷ units_left) (last_of (s ∷ drop (k + 1) start) (c ∷ drop (k + 1) count) ds)) (next stride k (omega (arith, rank.strides, lt)))

  abbrev axis : Axis
  axis = record { step = d * unit; width = product (drop (k + 1) count) }

  abbrev axes_left : List Axis
  axes_left = axes_of (drop (k + 1) count) (times units_left (drop (k + 1) stride))

  axes_split : axes_of (drop k count) (times (inner_units size (drop k lengths)) (drop k stride)) ≡ cond (eqb c 1) axes_left (axis ∷ axes_left)
  axes_split =
      ap (λ (us : List ℕ). axes_of (drop k count) (times us (drop k stride))) units_split
      ∙ ap (λ (ds : List ℕ). axes_of (drop k count) (times (unit ∷ units_left) ds)) (next stride k (omega (arith, rank.strides, lt)))
      ∙ ap (λ (cs : List ℕ). axes_of cs (d * unit ∷ times units_left (drop (k + 1) stride))) (next count k in_count)

  pub axis_skipped : (axes : List Axis) → c ≡ 1 → axes ++ axes_left ≡ axes ++ axes_of (drop k count) (times (inner_units size (drop k lengths)) (drop k stride))
  axis_skipped axes is = ap (λ (more : List Axis). axes ++ more) (sym (axes_split ∙ ap (λ (b : Bool). cond b axes_left (axis ∷ axes_left)) (eq-eqb c 1 is)))

  axis_added : (axes : List Axis) → (c ≡ 1 → ⊥) → (axes ++ axis ∷ []) ++ axes_left ≡ axes ++ axes_of (drop k count) (times (inner_units size (drop k lengths)) (drop k stride))
  axis_added axes not =
      append_assoc axes (axis ∷ []) axes_left
      ∙ ap (λ (more : List Axis). axes ++ more) (sym (axes_split ∙ ap (λ (b : Bool). cond b axes_left (axis ∷ axes_left)) (ne_eqb c 1 not)))

  pub axis_pushed : (axes pushed : List Axis) (u w : ℕ) → u ≡ unit → w ≡ product (drop (k + 1) count) → pushed ≡ axes ++ record { step = d * u; width = w } ∷ [] → (c ≡ 1 → ⊥)
      → pushed ++ axes_left ≡ axes ++ axes_of (drop k count) (times (inner_units size (drop k lengths)) (drop k stride))
  axis_pushed axes pushed u w unit_is width_is is not =
      ap (λ (all : List Axis). all ++ axes_left) is
      ∙ ap (λ (m : ℕ). (axes ++ record { step = d * m; width = w } ∷ []) ++ axes_left) unit_is
      ∙ ap (λ (m : ℕ). (axes ++ record { step = d * unit; width = m } ∷ []) ++ axes_left) width_is
      ∙ axis_added axes not

  -- with more than one index the step is no more than how far the last element lies
  pub step_fits : (c ≡ 1 → ⊥) → d * unit ≤ dot (inner_units size (drop k lengths)) (last_of (drop k start) (drop k count) (drop k stride))
  step_fits not =
      let below : d ≤ s + (c - 1) * d = omega (arith, mul-le 1 d (c - 1) d (omega (arith, not, count_positive)) (omega arith)) in
      omega (arith, last_split, mul-le d unit (s + (c - 1) * d) unit below (omega arith))

  pub rest_fits : dot units_left (last_of (drop (k + 1) start) (drop (k + 1) count) (drop (k + 1) stride))
      ≤ dot (inner_units size (drop k lengths)) (last_of (drop k start) (drop k count) (drop k stride))
  rest_fits = omega (arith, last_split)

-- the first element lies no further than the last
pub start_fits : (us ss cs ds : List ℕ) → length cs ≡ length ss → length ds ≡ length ss → dot us ss ≤ dot us (last_of ss cs ds)
start_fits us [] cs ds a b = omega arith
start_fits us (s ∷ ss) [] ds a b = absurd (omega (arith, a))
start_fits us (s ∷ ss) (c ∷ cs) [] a b = absurd (omega (arith, b))
start_fits [] (s ∷ ss) (c ∷ cs) (d ∷ ds) a b = omega arith
start_fits (u ∷ us) (s ∷ ss) (c ∷ cs) (d ∷ ds) a b =
    omega (arith, mul-le s u (s + (c - 1) * d) u (omega arith) (omega arith), start_fits us ss cs ds (omega (arith, a)) (omega (arith, b)))

pub axes_done : (axes : List Axis) (us counts stride : List ℕ) (k : ℕ) → length counts ≤ k → axes ++ axes_of (drop k counts) (times us stride) ≡ axes
axes_done axes us counts stride k le =
    ap (λ (cs : List ℕ). axes ++ axes_of cs (times us stride)) (drop_all k counts le) ∙ append-nil axes

pub offset_done : (size : ℕ) (lengths index : List ℕ) (k n : ℕ) → length lengths ≤ k → n + dot (inner_units size (drop k lengths)) index ≡ n
offset_done size lengths index k n le =
    let none : dot (inner_units size (drop k lengths)) index ≡ 0 = ap (λ (ls : List ℕ). dot (inner_units size ls) index) (drop_all k lengths le) in
    omega (arith, none)

-- ---- widths

wide_behind : (a : Axis) (axes : List Axis) → 0 < a.width → AreWide axes → AreWide (a ∷ axes)
wide_behind a axes wide others zero lt = wide
wide_behind a axes wide others (suc k) lt = others k (omega (arith, lt))

by_test : (b : Bool) (a : Axis) (axes : List Axis) → 0 < a.width → AreWide axes → AreWide (cond b axes (a ∷ axes))
by_test true a axes wide others = others
by_test false a axes wide others = wide_behind a axes wide others

pub axes_wide : (cs ds : List ℕ) → ArePositive cs → AreWide (axes_of cs ds)
axes_wide [] ds positive = λ k lt. absurd (omega (arith, lt))
axes_wide (c ∷ cs) [] positive = λ k lt. absurd (omega (arith, lt))
axes_wide (c ∷ cs) (d ∷ ds) positive =
    by_test (eqb c 1) (record { step = d; width = product cs }) (axes_of cs ds) (product_positive cs positive.1) (axes_wide cs ds positive.1)
