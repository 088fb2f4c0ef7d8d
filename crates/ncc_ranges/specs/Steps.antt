-- Where the elements of a selection lie, as steps, by the variable's own numbers.
use Rattle.std.specs.Prelude.{◌≡◌, ℕ, ◌+◌, ◌-◌, ◌*◌, ◌<◌, ◌≤◌, ◌^◌, ◌⊎◌, ◌==◌, Bool, true, false, if◌then◌else◌, List, [], ◌∷◌, map, drop, replicate, length, None, Some, Result, Ok, Err}
use Rattle.std.specs.List.{AllByRecursion}
use Rattle.ncc_values.specs.XType.{size_of}
use Rattle.ncc_layout.specs.declared.placed_var.PlacedVar.{PlacedVar}
use Rattle.ncc_layout.specs.Elements.{HasLengths}
use Rattle.ncc_layout.specs.Sizes.{product}
use Rattle.ncc_slab.specs.declared.fault.SlabFault.TheVariants.{Device, Memory}
use Rattle.ncc_slab.specs.declared.slab.Slab.{Slab}
use Rattle.ncc_slab.specs.Axes.{base_of, dot, inner_units, last_of, times, units_of, ArePositive}
use Rattle.ncc_slab.specs.Refusals.{shape_fault}
use Rattle.ncc_slab.specs.Selected.{places_of}
use Rattle.ncc_slab.specs.Selection.{index_lists, selected_count}
use Rattle.ncc_ranges.specs.declared.fault.RangeFault.{RangeFault}
use Rattle.ncc_ranges.specs.declared.fault.RangeFault.TheVariants.{Refused, NotInFile}
use Rattle.ncc_ranges.specs.declared.reach.Reach.{Reach}
use Rattle.ncc_ranges.specs.declared.steps.Steps.{Steps}

-- ---- what they say

-- the places of elements with all numbers below the counts: the base, and the sum of the numbers times the steps
abbrev pub places_by : (base : ℕ) → (steps count : List ℕ) → List ℕ
places_by base steps count = map (λ ks. base + dot steps ks) (index_lists count)

-- the elements of the selection lie there, in its order
pub record HasSteps (record_size : ℕ) (x : PlacedVar) (s : Slab) (base : ℕ) (steps : List ℕ) : Type 0 where
  pub rank : length steps ≡ length x.shape
  pub places : places_of record_size x s ≡ places_by base steps s.count

-- elements of this size end by the end of a file of this length
abbrev pub EndBy : (file size : ℕ) → (places : List ℕ) → Type 0
EndBy file size places = AllByRecursion (λ place. place + size ≤ file) places

-- ---- variables by their own numbers

-- the lengths along which elements lie row-major: of a record variable all but the first
abbrev pub inner_lengths : Bool → List ℕ → List ℕ
inner_lengths true ls = drop 1 ls
inner_lengths false ls = ls

abbrev pub bytes_of : PlacedVar → ℕ
bytes_of x = product (inner_lengths x.extent.is_record x.shape) * size_of x.xtype

-- a selection of some elements whose last one ends in a file of this length
pub record FitsFile (record_size file : ℕ) (x : PlacedVar) (s : Slab) : Type 0 where
  pub lengths : HasLengths x
  pub bytes : bytes_of x < 2 ^ 64
  pub elements : product s.count < 2 ^ 64
  pub last : x.extent.begin + dot (units_of record_size x) (last_of s.start s.count s.stride) + size_of x.xtype ≤ file

-- where nothing is selected it fits
abbrev pub Fits : (record_size file : ℕ) → PlacedVar → Slab → Type 0
Fits record_size file x s = ArePositive s.count → FitsFile record_size file x s

-- ---- answers

-- exactly the selection's fault; and only where there is none what P says, want of memory, or that it isn't in the file
abbrev pub RangesAs : {A : Type 0} → (record_size file : ℕ) → PlacedVar → Slab → (P : A → Type 0) → Result A RangeFault → Type 0
RangesAs record_size file x s P (Ok a) = (shape_fault x.shape s ≡ None) × P a
RangesAs record_size file x s P (Err (Refused Device)) = ⊥
RangesAs record_size file x s P (Err (Refused Memory)) = shape_fault x.shape s ≡ None
RangesAs record_size file x s P (Err (Refused f)) = shape_fault x.shape s ≡ Some f
RangesAs record_size file x s P (Err NotInFile) = (shape_fault x.shape s ≡ None) × (Fits record_size file x s → ⊥)

-- what P says, or that what is asked for isn't in the file because of Q, or want of memory
abbrev pub OrNotInFile : {A : Type 0} → (P : A → Type 0) → (Q : Type 0) → Result A RangeFault → Type 0
OrNotInFile P Q (Ok a) = P a
OrNotInFile P Q (Err NotInFile) = Q
OrNotInFile P Q (Err (Refused Memory)) = Unit {0}
OrNotInFile P Q (Err (Refused f)) = ⊥

-- ---- one dimension after the other

-- the steps along dimensions of so many indices; of a single index none
abbrev pub steps_along : (count distances : List ℕ) → List ℕ
steps_along (c ∷ cs) (d ∷ ds) = (if c == 1 then 0 else d) ∷ steps_along cs ds
steps_along _ _ = []

-- one dimension further
pub record IsFurther (old : Reach) (unit start count stride : ℕ) (x : Reach × ℕ) : Type 0 where
  pub first : x.0.first ≡ old.first + start * unit
  pub last : x.0.last ≡ old.last + (start + (count - 1) * stride) * unit
  pub step : x.1 ≡ (if count == 1 then 0 else stride * unit)

-- all of these dimensions further
pub record Reaches (first last : ℕ) (units start count stride : List ℕ) (x : Reach) : Type 0 where
  pub first_is : x.first ≡ first + dot units start
  pub last_is : x.last ≡ last + dot units (last_of start count stride)

-- along dimensions of these lengths, or these have 2^64 bytes or more, or the last element lies so far away
abbrev pub ReachesAs : (size : ℕ) → (lengths start count stride : List ℕ) → (first last : ℕ) → Result Reach RangeFault → Type 0
ReachesAs size ls ss cs ds first last result =
    OrNotInFile (λ r. Reaches first last (inner_units size ls) ss cs ds r × (product ls * size < 2 ^ 64))
    ((2 ^ 64 ≤ product ls * size) ⊎ (2 ^ 64 ≤ last + dot (inner_units size ls) (last_of ss cs ds))) result

-- ---- all dimensions

abbrev pub all_steps_of : (record_size : ℕ) → PlacedVar → Slab → List ℕ
all_steps_of record_size x s = steps_along s.count (times (units_of record_size x) s.stride)

-- how far the last selected element lies from the variable's first one
abbrev pub last_offset : (record_size : ℕ) → PlacedVar → Slab → ℕ
last_offset record_size x s = dot (units_of record_size x) (last_of s.start s.count s.stride)

-- there are too few lengths, too many bytes, or the last selected element lies too far away
abbrev pub LiesFar : (record_size : ℕ) → PlacedVar → Slab → Type 0
LiesFar record_size x s = (HasLengths x → ⊥) ⊎ ((2 ^ 64 ≤ bytes_of x) ⊎ (2 ^ 64 ≤ last_offset record_size x s))

-- how far all dimensions reach, which are enough and have fewer bytes
pub record ReachesAll (record_size : ℕ) (x : PlacedVar) (s : Slab) (r : Reach) : Type 0 where
  pub reaches : Reaches 0 0 (units_of record_size x) s.start s.count s.stride r
  pub lengths : HasLengths x
  pub bytes : bytes_of x < 2 ^ 64

-- the steps of a selection of some elements, which fits in the file
pub record HasAll (record_size file : ℕ) (x : PlacedVar) (s : Slab) (t : Steps) : Type 0 where
  pub base_is : t.base ≡ base_of record_size x s
  pub steps_are : t.steps.items ≡ all_steps_of record_size x s
  pub total_is : t.total ≡ product s.count
  pub fits : FitsFile record_size file x s

-- those of a selection of nothing
pub record HasNone (x : PlacedVar) (t : Steps) : Type 0 where
  pub base_is : t.base ≡ x.extent.begin
  pub steps_are : t.steps.items ≡ replicate (length x.shape) 0
  pub total_is : t.total ≡ 0

-- The steps of a selection that isn't refused: the elements lie there, and end in the file. Of some elements the base is
-- the place of the first, and the step along a dimension of one index is 0; of none the base is the variable's begin,
-- and all steps are 0.
pub record FindsSteps (record_size file : ℕ) (x : PlacedVar) (s : Slab) (t : Steps) : Type 0 where
  pub passes : shape_fault x.shape s ≡ None
  pub steps : HasSteps record_size x s t.base t.steps.items
  pub total : t.total ≡ selected_count s
  pub ends : EndBy file (size_of x.xtype) (places_of record_size x s)
  pub some : ArePositive s.count → HasAll record_size file x s t
  pub none : (ArePositive s.count → ⊥) → HasNone x t
