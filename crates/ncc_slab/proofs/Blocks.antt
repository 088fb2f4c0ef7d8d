-- Elements at even distances, by the axes of a grid.
use Rattle.std.proofs.Common.{◌≡◌, ℕ, suc, ◌+◌, ◌-◌, ◌*◌, ◌/◌, ◌%◌, ◌<◌, ◌≤◌, ◌⊎◌, inl, inr, ltb, Bool, true, false, List, [], ◌∷◌, length, get_or, drop, drop-cons, refl, sym, ap, subst, ◌∙◌, arith, mod-lt}
use Rattle.std.proofs.Math.Nat.{mul_assoc, add-mul, eq-or-lt_of_le}
use Rattle.std.proofs.lemmas.Bool.{ltb-true, ltb-false}
use Rattle.std.proofs.lemmas.List.{drop_all}
use Rattle.std.proofs.lemmas.Nat.{div-add-mod', div-mul-add, mod-mul-add}
use Rattle.ncc_slab.specs.declared.axis.Axis.{Axis}
use Rattle.ncc_slab.specs.Axes.{offset_at, no_axis, AreWide}
use Rattle.ncc_slab.specs.Grids.{IsDense}

next_axis : (axes : List Axis) (k : ℕ) → k < length axes → drop k axes ≡ get_or axes k no_axis ∷ drop (k + 1) axes
next_axis axes k lt =
    let one : suc k ≡ k + 1 = omega arith in
    drop-cons axes k no_axis lt ∙ ap (λ (n : ℕ). get_or axes k no_axis ∷ drop n axes) one

-- one axis more
module _ (size : ℕ) (axes : List Axis) (k : ℕ) (lt : k < length axes) (wide : AreWide axes) where
  abbrev a : Axis
  a = get_or axes k no_axis

  abbrev rest : List Axis
  rest = drop (k + 1) axes

  behind : (k + 1 ≡ length axes → a.width ≡ 1) → (k + 1 < length axes → IsDense size rest) → (n : ℕ) → offset_at rest (n % a.width) ≡ n % a.width * size
  behind last dense n =
      elim (eq-or-lt_of_le (let le : k + 1 ≤ length axes = omega (arith, lt) in le)) [
        | inl all ↦
            let none : rest ≡ [] = drop_all (k + 1) axes (omega (arith, all)) in
            let zeroed : n % a.width ≡ 0 = omega (arith, mod-lt n (wide k lt), last all) in
            let at : offset_at rest (n % a.width) ≡ 0 = ap (λ (l : List Axis). offset_at l (n % a.width)) none in
            omega (arith, at, ap (λ (m : ℕ). m * size) zeroed)
        | inr more ↦ dense more (n % a.width)
      ]

  pub dense_more : a.step ≡ a.width * size → (k + 1 ≡ length axes → a.width ≡ 1) → (k + 1 < length axes → IsDense size rest) → IsDense size (drop k axes)
  dense_more step last dense n =
      let q = n / a.width in
      let whole : q * (a.width * size) ≡ q * a.width * size = sym (mul_assoc q a.width size) in
      ap (λ (l : List Axis). offset_at l n) (next_axis axes k lt)
      ∙ omega (
        arith,
        ap (λ (m : ℕ). q * m) step,
        whole,
        behind last dense n,
        add-mul (q * a.width) (n % a.width) size,
        ap (λ (m : ℕ). m * size) (div-add-mod' n a.width),
      )

  -- so far as the index along it doesn't change, only what is after it tells
  pub same_index : (n i : ℕ) → i < a.width - n % a.width → offset_at rest (n % a.width + i) ≡ offset_at rest (n % a.width) + i * size
      → offset_at (drop k axes) (n + i) ≡ offset_at (drop k axes) n + i * size
  same_index n i below same =
      let q = n / a.width in
      let r = n % a.width in
      let inside : r + i < a.width = omega (arith, below) in
      let at : n + i ≡ q * a.width + (r + i) = omega (arith, div-add-mod' n a.width) in
      let index : (n + i) / a.width ≡ q = ap (λ (m : ℕ). m / a.width) at ∙ div-mul-add q a.width (r + i) inside in
      let left : (n + i) % a.width ≡ r + i = ap (λ (m : ℕ). m % a.width) at ∙ mod-mul-add q a.width (r + i) inside in
      ap (λ (l : List Axis). offset_at l (n + i)) (next_axis axes k lt)
      ∙ ap (λ (m : ℕ). m * a.step + offset_at rest ((n + i) % a.width)) index
      ∙ ap (λ (m : ℕ). q * a.step + offset_at rest m) left
      ∙ ap (λ (m : ℕ). q * a.step + m) same
      ∙ omega (arith, ap (λ (l : List Axis). offset_at l n) (next_axis axes k lt))

  pub offset_by : (w step n q r : ℕ) → w ≡ a.width → step ≡ a.step → q ≡ n / w → r ≡ n % w → offset_at (drop k axes) n ≡ q * step + offset_at rest r
  offset_by w step n q r width step_is index left =
      ap (λ (l : List Axis). offset_at l n) (next_axis axes k lt)
      ∙ ap (λ (m : ℕ). n / m * a.step + offset_at rest (n % m)) (sym width)
      ∙ ap (λ (m : ℕ). n / w * m + offset_at rest (n % w)) (sym step_is)
      ∙ ap (λ (m : ℕ). m * step + offset_at rest (n % w)) (sym index)
      ∙ ap (λ (m : ℕ). q * step + offset_at rest m) (sym left)

  pub same_index_by : (w n i r : ℕ) → w ≡ a.width → r ≡ n % w → i < w - r → offset_at rest (r + i) ≡ offset_at rest r + i * size
      → offset_at (drop k axes) (n + i) ≡ offset_at (drop k axes) n + i * size
  same_index_by w n i r width left =
      let is : r ≡ n % a.width = left ∙ ap (λ (m : ℕ). n % m) width in
      subst (λ (m : ℕ). i < m - r → offset_at rest (r + i) ≡ offset_at rest r + i * size → offset_at (drop k axes) (n + i) ≡ offset_at (drop k axes) n + i * size)
      (sym width)
      (subst (λ (m : ℕ). i < a.width - m → offset_at rest (m + i) ≡ offset_at rest m + i * size → offset_at (drop k axes) (n + i) ≡ offset_at (drop k axes) n + i * size)
      (sym is) (same_index n i))

-- along axes on which each element lies this far from the one before it
pub dense_goes_on : (size : ℕ) (axes : List Axis) → IsDense size axes → (n i : ℕ) → offset_at axes (n + i) ≡ offset_at axes n + i * size
dense_goes_on size axes dense n i = omega (arith, dense (n + i), dense n, add-mul n i size)

-- elements that adjoin, and after them others
module _ (f : ℕ → ℕ) (n count more place size : ℕ) (one : (i : ℕ) → i < count → f (n + i) ≡ place + i * size) (next : f (n + count) ≡ place + count * size)
    (two : (i : ℕ) → i < more → f (n + count + i) ≡ f (n + count) + i * size) where
  by_test : (b : Bool) (i : ℕ) → ltb i count ≡ b → i < count + more → f (n + i) ≡ place + i * size
  by_test true i e below = one i (ltb-true i count e)
  by_test false i e below =
      let above : count ≤ i = ltb-false i count e in
      let at : n + i ≡ n + count + (i - count) = omega (arith, above) in
      let sum : i * size ≡ count * size + (i - count) * size = ap (λ (m : ℕ). m * size) (let whole : i ≡ count + (i - count) = omega (arith, above) in whole) ∙ add-mul count (i - count) size in
      ap f at ∙ two (i - count) (omega (arith, above, below)) ∙ omega (arith, next, sum)

  pub runs_join : (i : ℕ) → i < count + more → f (n + i) ≡ place + i * size
  runs_join i below = by_test (ltb i count) i refl below

-- ---- runs of elements at even distances

-- where that is their size, or where it is one element
pub run_adjoins : (f : ℕ → ℕ) (n place step size count : ℕ) → ((i : ℕ) → i < count → f (n + i) ≡ place + i * step) → (step ≡ size) ⊎ (count ≤ 1)
    → (i : ℕ) → i < count → f (n + i) ≡ place + i * size
run_adjoins f n place step size count even (inl same) i below = even i below ∙ ap (λ (m : ℕ). place + i * m) same
run_adjoins f n place step size count even (inr one) i below =
    let none : i ≡ 0 = omega (arith, one, below) in
    even i below ∙ ap (λ (m : ℕ). place + m * step) none ∙ omega (arith, ap (λ (m : ℕ). m * size) none)

pub run_begins : (f : ℕ → ℕ) (n place step count : ℕ) → 0 < count → ((i : ℕ) → i < count → f (n + i) ≡ place + i * step) → f n ≡ place
run_begins f n place step count some even = ap f (let same : n ≡ n + 0 = omega arith in same) ∙ even 0 some ∙ omega arith

-- without its first ones
pub run_behind : (f : ℕ → ℕ) (n gone count place step : ℕ) → ((i : ℕ) → i < count → f (n + i) ≡ place + i * step)
    → (i : ℕ) → i < count - gone → f (n + gone + i) ≡ place + gone * step + i * step
run_behind f n gone count place step even i below =
    ap f (let same : n + gone + i ≡ n + (gone + i) = omega arith in same) ∙ even (gone + i) (omega (arith, below)) ∙ omega (arith, add-mul gone i step)

-- and after them a run of which each adjoins
pub runs_adjoin : (f : ℕ → ℕ) (n count more place next step size : ℕ) → ((i : ℕ) → i < count → f (n + i) ≡ place + i * size) → next ≡ place + count * size
    → 0 < more → ((i : ℕ) → i < more → f (n + count + i) ≡ next + i * step) → (step ≡ size) ⊎ (more ≤ 1)
    → (i : ℕ) → i < count + more → f (n + i) ≡ place + i * size
runs_adjoin f n count more place next step size one here some even each =
    let first = run_begins f (n + count) next step more some even in
    runs_join f n count more place size one (first ∙ here)
    (λ i below. run_adjoins f (n + count) next step size more even each i below ∙ ap (λ (m : ℕ). m + i * size) (sym first))
