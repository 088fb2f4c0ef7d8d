-- What is found of a selection: its steps, or that nothing is selected, or that it isn't in the file.
use Rattle.std.proofs.Common.{◌≡◌, ℕ, zero, suc, ◌+◌, ◌^◌, ◌<◌, ◌≤◌, List, [], ◌∷◌, map, length, Bool, true, false, cond, Option, None, Some, Result, Ok, Err, refl, sym, ap, subst, ◌∙◌, arith}
use Rattle.std.specs.List.{AllByRecursion, position_from}
use Rattle.std.specs.Prelude.{◌==◌}
use Rattle.std.proofs.lemmas.Bool.{eqb-false, eqb-true}
use Rattle.std.proofs.lemmas.List.{length-replicate}
use Rattle.ncc_values.specs.XType.{size_of}
use Rattle.ncc_layout.specs.declared.placed_var.PlacedVar.{PlacedVar}
use Rattle.ncc_layout.specs.Sizes.{product}
use Rattle.ncc_layout.specs.Elements.{place_of}
use Rattle.ncc_slab.specs.declared.fault.SlabFault.TheVariants.{NoVariable, RankMismatch, ZeroStride, Outside, Device, Memory}
use Rattle.ncc_slab.specs.declared.slab.Slab.{Slab}
use Rattle.ncc_slab.specs.declared.axis.Axis.{Axis}
use Rattle.ncc_slab.specs.Axes.{ArePositive, place_at, places_from}
use Rattle.ncc_slab.specs.Refusals.{shape_fault, FitsIn}
use Rattle.ncc_slab.specs.Selected.{places_of}
use Rattle.ncc_slab.specs.Selection.{index_lists, index_of}
use Rattle.ncc_slab.proofs.Lists.{count_is_product, length-index_lists}
use Rattle.ncc_slab.proofs.Ranges.{all-range}
use Rattle.ncc_ranges.specs.declared.fault.RangeFault.{RangeFault}
use Rattle.ncc_ranges.specs.declared.fault.RangeFault.TheVariants.{Refused, NotInFile}
use Rattle.ncc_ranges.specs.declared.steps.Steps.{Steps}
use Rattle.ncc_ranges.specs.Steps.{FindsSteps, FitsFile, HasAll, HasNone, OrNotInFile, RangesAs, all_steps_of, places_by}
use Rattle.ncc_ranges.proofs.AxesBySteps.{all_positive}
use Rattle.ncc_ranges.proofs.Stepping.{all_end, by_steps, rank_is, rank_of}

-- ---- is something selected?

first_none : (b : Bool) (n : ℕ) (o : Option ℕ) → cond b (Some n) o ≡ None → (b ≡ false) × (o ≡ None)
first_none true n o e = absurd cc
first_none false n o e = (refl, e)

pub all_some : (n : ℕ) (cs : List ℕ) → position_from (λ c. c == 0) n cs ≡ None → ArePositive cs
all_some n [] e = tt
all_some n (c ∷ cs) e =
    let parts = first_none (c == 0) n (position_from (λ c. c == 0) (n + 1) cs) e in
    (omega (arith, eqb-false c 0 parts.0), all_some (n + 1) cs parts.1)

later : (b : Bool) (n c : ℕ) (o : Option ℕ) (k : ℕ) → (c == 0) ≡ b → cond b (Some n) o ≡ Some k → 0 < c → o ≡ Some k
later true n c o k is e some = absurd (omega (arith, eqb-true c 0 is, some))
later false n c o k is e some = e

pub none_some : (n : ℕ) (cs : List ℕ) (k : ℕ) → position_from (λ c. c == 0) n cs ≡ Some k → ArePositive cs → ⊥
none_some n [] k e all = absurd cc
none_some n (c ∷ cs) k e all = none_some (n + 1) cs k (later (c == 0) n c (position_from (λ c. c == 0) (n + 1) cs) k refl e all.0) all.1

-- the same of a slice of these numbers
pub shape_passes : (ls now : List ℕ) (s : Slab) → now ≡ ls → None ≡ shape_fault now s → shape_fault ls s ≡ None
shape_passes ls now s is none = sym (none ∙ ap (λ (l : List ℕ). shape_fault l s) is)

pub counts_all : (cs now : List ℕ) → now ≡ cs → None ≡ position_from (λ c. c == 0) 0 now → ArePositive cs
counts_all cs now is none = all_some 0 cs (sym (none ∙ ap (position_from (λ c. c == 0) 0) is))

pub counts_none : (cs now : List ℕ) (k : ℕ) → now ≡ cs → Some k ≡ position_from (λ c. c == 0) 0 now → ArePositive cs → ⊥
counts_none cs now k is some = none_some 0 cs k (sym (some ∙ ap (position_from (λ c. c == 0) 0) is))

no_items : {A : Type 0} (xs : List A) → length xs ≡ 0 → xs ≡ []
no_items [] e = refl
no_items (x ∷ xs) e = absurd (omega (arith, e))

by_product : (count : List ℕ) (n : ℕ) → product count ≡ n → (ArePositive count → ⊥) → product count ≡ 0
by_product count zero e none = e
by_product count (suc n) e none = absurd (none (all_positive count (λ is. omega (arith, is, e))))

no_lists : (count : List ℕ) → product count ≡ 0 → index_lists count ≡ []
no_lists count none = no_items (index_lists count) (length-index_lists count ∙ none)

pub none_by : (base : ℕ) (steps count : List ℕ) → product count ≡ 0 → places_by base steps count ≡ []
none_by base steps count none = ap (map _) (no_lists count none)

no_places : (record_size : ℕ) (x : PlacedVar) (s : Slab) → product s.count ≡ 0 → places_of record_size x s ≡ []
no_places record_size x s none = ap (λ (l : List (List ℕ)). map (place_of record_size x) (map (index_of s.start s.stride) l)) (no_lists s.count none)

-- ---- what is found

module _ (record_size file : ℕ) (x : PlacedVar) (s : Slab) (passes : shape_fault x.shape s ≡ None) (fits : FitsIn x.shape s) where
  pub none_found : (t : Steps) → (ArePositive s.count → ⊥) → HasNone x t → FindsSteps record_size file x s t
  none_found t none has =
      let zero_is = by_product s.count (product s.count) refl none in
      record {
        passes = passes;
        steps = record {
          rank = ap length has.steps_are ∙ length-replicate {A = ℕ} (length x.shape) 0;
          places = no_places record_size x s zero_is ∙ sym (none_by t.base t.steps.items s.count zero_is);
        };
        total = has.total_is ∙ sym zero_is ∙ sym (count_is_product s);
        ends = subst (AllByRecursion (λ place. place + size_of x.xtype ≤ file)) (sym (no_places record_size x s zero_is)) tt;
        some = λ all. absurd (none all);
        none = λ no. has;
      }

  all_found : (t : Steps) → ArePositive s.count → HasAll record_size file x s t → FindsSteps record_size file x s t
  all_found t positive has =
      let rank = rank_of x.shape s fits in
      record {
        passes = passes;
        steps = record {
          rank = ap length has.steps_are ∙ rank_is record_size x s rank;
          places = by_steps record_size x s rank
              ∙ ap (λ (b : ℕ). places_by b (all_steps_of record_size x s) s.count) (sym has.base_is)
              ∙ ap (λ (l : List ℕ). places_by t.base l s.count) (sym has.steps_are);
        };
        total = has.total_is ∙ sym (count_is_product s);
        ends = all_end record_size x s rank file (size_of x.xtype) has.fits.last;
        some = λ all. has;
        none = λ no. absurd (no positive);
      }

  pub ranged : (answer : Result Steps RangeFault) → ArePositive s.count → OrNotInFile (HasAll record_size file x s) (FitsFile record_size file x s → ⊥) answer
      → RangesAs record_size file x s (FindsSteps record_size file x s) answer
  ranged (Ok t) some is = (passes, all_found t some is)
  ranged (Err NotInFile) some is = (passes, λ fit. is (fit some))
  ranged (Err (Refused NoVariable)) some is = absurd is
  ranged (Err (Refused RankMismatch)) some is = absurd is
  ranged (Err (Refused (ZeroStride k))) some is = absurd is
  ranged (Err (Refused (Outside k))) some is = absurd is
  ranged (Err (Refused Device)) some is = absurd is
  ranged (Err (Refused Memory)) some is = passes

-- ---- the places of what is found

all_below : (file size : ℕ) → file < 2 ^ 64 → (places : List ℕ) → AllByRecursion (λ place. place + size ≤ file) places → AllByRecursion (λ place. place < 2 ^ 64) places
all_below file size small [] ends = tt
all_below file size small (place ∷ places) ends = (omega (arith, ends.0, small), all_below file size small places ends.1)

pub places_below : (record_size file : ℕ) (x : PlacedVar) (s : Slab) (t : Steps) → FindsSteps record_size file x s t → file < 2 ^ 64
    → AllByRecursion (λ place. place < 2 ^ 64) (places_by t.base t.steps.items s.count)
places_below record_size file x s t found small =
    subst (AllByRecursion (λ place. place < 2 ^ 64)) found.steps.places (all_below file (size_of x.xtype) small (places_of record_size x s) found.ends)

pub all_end_by : (file size n : ℕ) (base : ℕ) (axes : List Axis) (count : ℕ) → n ≡ size → (places : List ℕ) → places_from base axes 0 count ≡ places → AllByRecursion (λ place. place + size ≤ file) places
    → (k : ℕ) → k < count → place_at base axes k + n ≤ file
all_end_by file size n base axes count n_is places are ends k lt =
    let same : 0 + k ≡ k = omega arith in
    let all = subst (AllByRecursion (λ place. place + size ≤ file)) (sym are) ends in
    subst (λ (m : ℕ). place_at base axes k + m ≤ file) (sym n_is)
    (subst (λ (j : ℕ). place_at base axes j + size ≤ file) same (all-range (place_at base axes) (λ place. place + size ≤ file) 0 count all k lt))
