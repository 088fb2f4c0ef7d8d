-- What the rules of a placed file say of the numbers of a selection.
use Rattle.std.proofs.Common.{◌≡◌, ℕ, zero, suc, ◌+◌, ◌-◌, ◌*◌, ◌<◌, ◌≤◌, Bool, true, false, cond, List, [], ◌∷◌, length, get_or, drop, sym, ap, subst, ◌∙◌, arith}
use Rattle.std.specs.List.{AllByRecursion}
use Rattle.std.proofs.Math.Nat.{mul_assoc}
use Rattle.std.proofs.lemmas.Nat.{mul-le}
use Rattle.std.proofs.lemmas.Bool.{eq-eqb, ne_eqb}
use Rattle.ncc_values.specs.XType.{size_of}
use Rattle.ncc_layout.specs.declared.placed_var.PlacedVar.{PlacedVar}
use Rattle.ncc_layout.specs.declared.placed_file.Placed.{Placed}
use Rattle.ncc_layout.specs.Sizes.{product}
use Rattle.ncc_layout.specs.Elements.{var_at, no_var, Inside, Own}
use Rattle.ncc_layout.specs.Placed.{header_length_of, file_length_of, record_size_of_file, vars_of, KeepsRules}
use Rattle.ncc_layout.proofs.ShapesInFile.{has_first, shape_in_file}
use Rattle.ncc_slab.specs.declared.slab.Slab.{Slab}
use Rattle.ncc_slab.specs.Refusals.{along, Fits}
use Rattle.ncc_slab.specs.Axes.{dot, inner_units, units, units_of, axes_of, times, base_of, last_of, ArePositive, HasRank, SelectsSome}
use Rattle.ncc_slab.proofs.Counts.{count_below, products_below}
use Rattle.ncc_slab.proofs.Offsets.{offset_is}
use Rattle.ncc_slab.proofs.OneAxis.{start_fits}
use Rattle.ncc_slab.proofs.Whole.{element_ends, any_default}
use Rattle.ncc_values.proofs.ElementsLemmas.{size_of-some}

-- ---- the last element

last_inside : (ls ss cs ds : List ℕ) → length ss ≡ length ls → length cs ≡ length ls → length ds ≡ length ls
    → AllByRecursion Fits (along ls ss cs ds) → ArePositive cs → Inside ls (last_of ss cs ds)
last_inside [] [] cs ds a b e fit some = tt
last_inside [] (s ∷ ss) cs ds a b e fit some = absurd (omega (arith, a))
last_inside (l ∷ ls) [] cs ds a b e fit some = absurd (omega (arith, a))
last_inside (l ∷ ls) (s ∷ ss) [] ds a b e fit some = absurd (omega (arith, b))
last_inside (l ∷ ls) (s ∷ ss) (c ∷ cs) [] a b e fit some = absurd (omega (arith, e))
last_inside (l ∷ ls) (s ∷ ss) (zero ∷ cs) (d ∷ ds) a b e fit some = absurd (omega (arith, some.0))
last_inside (l ∷ ls) (s ∷ ss) (suc c ∷ cs) (d ∷ ds) a b e fit some = (
  (let same : (suc c - 1) * d ≡ c * d = ap (λ (n : ℕ). n * d) (let one : suc c - 1 ≡ c = omega arith in one) in omega (arith, same, fit.0.1)),
  last_inside ls ss cs ds (omega (arith, a)) (omega (arith, b)) (omega (arith, e)) fit.1 some.1,
)

lengths_positive : (ls ss cs ds : List ℕ) → length ss ≡ length ls → length cs ≡ length ls → length ds ≡ length ls
    → AllByRecursion Fits (along ls ss cs ds) → ArePositive cs → ArePositive ls
lengths_positive [] ss cs ds a b e fit some = tt
lengths_positive (l ∷ ls) [] cs ds a b e fit some = absurd (omega (arith, a))
lengths_positive (l ∷ ls) (s ∷ ss) [] ds a b e fit some = absurd (omega (arith, b))
lengths_positive (l ∷ ls) (s ∷ ss) (c ∷ cs) [] a b e fit some = absurd (omega (arith, e))
lengths_positive (l ∷ ls) (s ∷ ss) (c ∷ cs) (d ∷ ds) a b e fit some = (
  omega (arith, some.0, count_below l s c d fit.0.0 fit.0.1),
  lengths_positive ls ss cs ds (omega (arith, a)) (omega (arith, b)) (omega (arith, e)) fit.1 some.1,
)

-- ---- a record variable: its first dimension, and the others

pub record OfRecords (record_size size file begin : ℕ) (ls ss cs ds : List ℕ) : Type 0 where
  pub some : 0 < length ls
  pub first_count : 0 < get_or cs 0 0
  pub step : (get_or cs 0 0 ≡ 1 → ⊥) → get_or ds 0 0 * record_size ≤ file
  pub first : begin + get_or ss 0 0 * record_size + dot (inner_units size (drop 1 ls)) (drop 1 ss) ≤ file
  pub last : dot (inner_units size (drop 1 ls)) (last_of (drop 1 ss) (drop 1 cs) (drop 1 ds)) ≤ file
  pub bytes : product (drop 1 ls) * size ≤ file
  pub elements : product (drop 1 cs) ≤ file
  pub lengths : ArePositive (drop 1 ls)
  pub counts : ArePositive (drop 1 cs)
  pub rank : HasRank (drop 1 ls) (drop 1 ss) (drop 1 cs) (drop 1 ds)
  pub base : begin + get_or ss 0 0 * record_size + dot (inner_units size (drop 1 ls)) (drop 1 ss) ≡ begin + dot (units record_size size true ls) ss
  pub one : get_or cs 0 0 ≡ 1 → axes_of (drop 1 cs) (times (inner_units size (drop 1 ls)) (drop 1 ds)) ≡ axes_of cs (times (units record_size size true ls) ds)
  pub more : (get_or cs 0 0 ≡ 1 → ⊥)
      → record { step = get_or ds 0 0 * record_size; width = product (drop 1 cs) } ∷ axes_of (drop 1 cs) (times (inner_units size (drop 1 ls)) (drop 1 ds)) ≡ axes_of cs (times (units record_size size true ls) ds)

all_of_records : (record_size size file begin : ℕ) (ls ss cs ds : List ℕ) → 0 < length ls → length ss ≡ length ls → length cs ≡ length ls → length ds ≡ length ls
    → ArePositive ls → ArePositive cs → begin + dot (units record_size size true ls) (last_of ss cs ds) + size ≤ file → product ls * size ≤ file → product cs ≤ file
    → OfRecords record_size size file begin ls ss cs ds
all_of_records record_size size file begin [] ss cs ds there a b e positive some last bytes elements = absurd (omega (arith, there))
all_of_records record_size size file begin (l ∷ ls) [] cs ds there a b e positive some last bytes elements = absurd (omega (arith, a))
all_of_records record_size size file begin (l ∷ ls) (s ∷ ss) [] ds there a b e positive some last bytes elements = absurd (omega (arith, b))
all_of_records record_size size file begin (l ∷ ls) (s ∷ ss) (c ∷ cs) [] there a b e positive some last bytes elements = absurd (omega (arith, e))
all_of_records record_size size file begin (l ∷ ls) (s ∷ ss) (c ∷ cs) (d ∷ ds) there a b e positive some last bytes elements =
    let counts : length cs ≡ length ls = omega (arith, b) in
    let starts : length ss ≡ length ls = omega (arith, a) in
    let strides : length ds ≡ length ls = omega (arith, e) in
    let earlier = start_fits (inner_units size ls) ss cs ds (counts ∙ sym starts) (strides ∙ sym starts) in
    let least : s * record_size ≤ (s + (c - 1) * d) * record_size = mul-le s record_size (s + (c - 1) * d) record_size (omega arith) (omega arith) in
    record {
      some = there;
      first_count = some.0;
      step = λ not.
          let far : d ≤ s + (c - 1) * d = omega (arith, mul-le 1 d (c - 1) d (omega (arith, not, some.0)) (omega arith)) in
          omega (arith, last, mul-le d record_size (s + (c - 1) * d) record_size far (omega arith));
      first = omega (arith, last, earlier, least);
      last = omega (arith, last);
      bytes = omega (arith, bytes, mul_assoc l (product ls) size, mul-le 1 (product ls * size) l (product ls * size) positive.0 (omega arith));
      elements = omega (arith, elements, mul-le 1 (product cs) c (product cs) some.0 (omega arith));
      lengths = positive.1;
      counts = some.1;
      rank = record { starts = starts; counts = counts; strides = strides };
      base = omega arith;
      one = λ is. sym (ap (λ (t : Bool). cond t (axes_of cs (times (inner_units size ls) ds)) (record { step = d * record_size; width = product cs } ∷ axes_of cs (times (inner_units size ls) ds))) (eq-eqb c 1 is));
      more = λ not. sym (ap (λ (t : Bool). cond t (axes_of cs (times (inner_units size ls) ds)) (record { step = d * record_size; width = product cs } ∷ axes_of cs (times (inner_units size ls) ds))) (ne_eqb c 1 not));
    }

module _ (p : Placed) (keeps : KeepsRules p) (own : Own (header_length_of p) (file_length_of p) (record_size_of_file p) (vars_of p)) (n : ℕ) (s : Slab) (some : SelectsSome p n s) where
  abbrev v : PlacedVar
  v = var_at (vars_of p) n

  pub all_lengths_positive : ArePositive v.shape
  all_lengths_positive = lengths_positive v.shape s.start s.count s.stride some.fits.starts some.fits.counts some.fits.strides some.fits.each some.some

  pub last_in_file : v.extent.begin + dot (units_of (record_size_of_file p) v) (last_of s.start s.count s.stride) + size_of v.xtype ≤ file_length_of p
  last_in_file =
      let last = last_of s.start s.count s.stride in
      let inside : Inside v.shape last = last_inside v.shape s.start s.count s.stride some.fits.starts some.fits.counts some.fits.strides some.fits.each some.some in
      let ends = element_ends (header_length_of p) (file_length_of p) (record_size_of_file p) (vars_of p) own
      (record { var = v; there = (n, some.there, any_default (vars_of p) n v no_var some.there); index = last; inside = inside }) in
      omega (arith, ends, offset_is (record_size_of_file p) (size_of v.xtype) v.extent.is_record v.shape last)

  pub count_in_file : product s.count ≤ file_length_of p
  count_in_file =
      let fewer = products_below v.shape s.start s.count s.stride some.fits.starts some.fits.counts some.fits.strides some.fits.each in
      omega (arith, fewer, shape_in_file p keeps n some.there, mul-le (product v.shape) 1 (product v.shape) (size_of v.xtype) (omega arith) (size_of-some v.xtype))

  -- the same of a fixed variable
  pub fixed_last : v.extent.is_record ≡ false → v.extent.begin + dot (inner_units (size_of v.xtype) v.shape) (last_of s.start s.count s.stride) + size_of v.xtype ≤ file_length_of p
  fixed_last is = subst (λ (b : Bool). v.extent.begin + dot (units (record_size_of_file p) (size_of v.xtype) b v.shape) (last_of s.start s.count s.stride) + size_of v.xtype ≤ file_length_of p) is last_in_file

  first_fits : dot (units_of (record_size_of_file p) v) s.start ≤ dot (units_of (record_size_of_file p) v) (last_of s.start s.count s.stride)
  first_fits = start_fits (units_of (record_size_of_file p) v) s.start s.count s.stride (some.fits.counts ∙ sym some.fits.starts) (some.fits.strides ∙ sym some.fits.starts)

  -- the place of the first element
  pub base_in_file : base_of (record_size_of_file p) v s ≤ file_length_of p
  base_in_file = omega (arith, last_in_file, first_fits)

  pub fixed_base : v.extent.is_record ≡ false → v.extent.begin + dot (inner_units (size_of v.xtype) v.shape) s.start ≤ file_length_of p
  fixed_base is = subst (λ (b : Bool). v.extent.begin + dot (units (record_size_of_file p) (size_of v.xtype) b v.shape) s.start ≤ file_length_of p) is base_in_file

  pub of_records : v.extent.is_record ≡ true → OfRecords (record_size_of_file p) (size_of v.xtype) (file_length_of p) v.extent.begin v.shape s.start s.count s.stride
  of_records is =
      all_of_records (record_size_of_file p) (size_of v.xtype) (file_length_of p) v.extent.begin v.shape s.start s.count s.stride (has_first p keeps n some.there is)
      some.fits.starts some.fits.counts some.fits.strides all_lengths_positive some.some
      (subst (λ (b : Bool). v.extent.begin + dot (units (record_size_of_file p) (size_of v.xtype) b v.shape) (last_of s.start s.count s.stride) + size_of v.xtype ≤ file_length_of p) is last_in_file)
      (shape_in_file p keeps n some.there) count_in_file
