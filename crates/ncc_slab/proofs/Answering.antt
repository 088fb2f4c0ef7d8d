-- What a call answers where the reading of a part failed, and where all was read.
use Rattle.std.proofs.Common.{◌≡◌, ℕ, ◌+◌, ◌*◌, ◌≤◌, None, Err, List, map, length, sym, ap, subst, ◌∙◌, arith}
use Rattle.std.proofs.lemmas.List.{length-map}
use Rattle.std.proofs.lemmas.List.FromFn.{length-map-range_with_len}
use Rattle.ncc_values.specs.declared.values.Values.{Values}
use Rattle.ncc_values.specs.declared.xtype.XType.{XType}
use Rattle.ncc_values.specs.XType.{size_of}
use Rattle.ncc_values.specs.Values.{type_of, count_of, no_values}
use Rattle.ncc_values.proofs.ValuesLemmas.{type_of-no_values, count_of-no_values}
use Rattle.ncc_layout.specs.declared.placed_var.PlacedVar.{PlacedVar}
use Rattle.ncc_layout.specs.declared.placed_file.Placed.{Placed}
use Rattle.ncc_layout.specs.Elements.{var_at, place_of}
use Rattle.ncc_layout.specs.Placed.{file_length_of, record_size_of_file, vars_of}
use Rattle.ncc_slab.specs.declared.grid.Grid.{Grid}
use Rattle.ncc_slab.specs.declared.slab.Slab.{Slab}
use Rattle.ncc_slab.specs.declared.fault.SlabFault.{SlabFault}
use Rattle.ncc_slab.specs.declared.fault.SlabFault.TheVariants.{NoVariable, RankMismatch, ZeroStride, Outside, Device, Memory}
use Rattle.ncc_slab.specs.Refusals.{slab_fault}
use Rattle.ncc_slab.specs.Selection.{indices_of, selected_count}
use Rattle.ncc_slab.specs.Selected.{bytes_at_places, number_at, numbers_of, places_of, AddsPlaces, Selected}
use Rattle.ncc_slab.specs.Axes.{place_at}
use Rattle.ncc_slab.specs.Grids.{grid_places, grid_count, EndBy}
use Rattle.ncc_slab.specs.Stretches.{all_stretches}
use Rattle.ncc_slab.specs.Answers.{ReadsAs, SlabCounts, PartCounts}
use Rattle.ncc_slab.proofs.Joined.{all_selected, each_whole}
use Rattle.ncc_slab.proofs.Numbers.{numbers_are_there}

pub failed_part : (A B : Type 0) (vars : List PlacedVar) (n : ℕ) (s : Slab) (old new : ℕ) (e : SlabFault) → slab_fault vars n s ≡ None
    → PartCounts {A = A} old new (Err e) → ReadsAs {A = B} vars n s (Err e)
failed_part A B vars n s old new NoVariable none part = absurd part
failed_part A B vars n s old new RankMismatch none part = absurd part
failed_part A B vars n s old new (ZeroStride k) none part = absurd part
failed_part A B vars n s old new (Outside k) none part = absurd part
failed_part A B vars n s old new Device none part = none
failed_part A B vars n s old new Memory none part = none

pub failed_count : (A B : Type 0) (old new : ℕ) (e : SlabFault) → PartCounts {A = A} old new (Err e) → SlabCounts {A = B} old new (Err e)
failed_count A B old new NoVariable part = absurd part
failed_count A B old new RankMismatch part = absurd part
failed_count A B old new (ZeroStride k) part = absurd part
failed_count A B old new (Outside k) part = absurd part
failed_count A B old new Device part = part
failed_count A B old new Memory part = part

-- ---- all of a selection

module _ (p q r : Placed) (n : ℕ) (s : Slab) (g : Grid) (t : XType) (empty : Values) (first : q ≡ p) (second : r ≡ p)
    (type_is : t ≡ (var_at (vars_of r) n).xtype) (empty_is : empty ≡ no_values t) where
  abbrev x : PlacedVar
  x = var_at (vars_of p) n

  has_type : t ≡ x.xtype
  has_type = type_is ∙ ap (λ (f : Placed). (var_at (vars_of f) n).xtype) second

  pub typed : type_of empty ≡ x.xtype
  typed = ap type_of empty_is ∙ type_of-no_values t ∙ has_type

  pub counted : count_of empty ≡ 0
  counted = ap count_of empty_is ∙ count_of-no_values t

  pub all_end : EndBy (file_length_of q) (size_of (var_at (vars_of q) n).xtype) g → EndBy (file_length_of p) (size_of (type_of empty)) g
  all_end ends =
      subst (λ (size : ℕ). EndBy (file_length_of p) size g) (ap size_of (sym typed))
      (subst (λ (f : Placed). EndBy (file_length_of f) (size_of (var_at (vars_of f) n).xtype) g) first ends)

  pub grid_is : grid_places g ≡ places_of (record_size_of_file q) (var_at (vars_of q) n) s → grid_places g ≡ places_of (record_size_of_file p) x s
  grid_is same = same ∙ ap (λ (f : Placed). places_of (record_size_of_file f) (var_at (vars_of f) n) s) first

  pub not_refused : slab_fault (vars_of q) n s ≡ None → slab_fault (vars_of p) n s ≡ None
  not_refused none = subst (λ (f : Placed). slab_fault (vars_of f) n s ≡ None) first none

  pub selected : (file : List ℕ) (values : Values) → grid_places g ≡ places_of (record_size_of_file q) (var_at (vars_of q) n) s
      → AddsPlaces file (size_of (type_of empty)) (grid_places g) empty values → Selected file (record_size_of_file p) x s values
  selected file values same part =
      all_selected file (record_size_of_file p) x s values
      (subst (λ (v : Values). AddsPlaces file (size_of x.xtype) (places_of (record_size_of_file p) x s) v values) (empty_is ∙ ap no_values has_type)
      (subst (λ (places : List ℕ). AddsPlaces file (size_of x.xtype) places empty values) (grid_is same)
      (subst (λ (size : ℕ). AddsPlaces file size (grid_places g) empty values) (ap size_of typed) part)))

  pub numbers : (file : List ℕ) (values : Values) → grid_places g ≡ places_of (record_size_of_file q) (var_at (vars_of q) n) s
      → AddsPlaces file (size_of (type_of empty)) (grid_places g) empty values → numbers_of values ≡ map (number_at file (record_size_of_file p) x) (indices_of s)
  numbers file values same part =
      let size = size_of x.xtype in
      let whole : length (bytes_at_places file size (places_of (record_size_of_file p) x s)) ≡ length (places_of (record_size_of_file p) x s) * size =
      subst (λ (places : List ℕ). length (bytes_at_places file size places) ≡ length places * size) (grid_is same)
      (subst (λ (k : ℕ). length (bytes_at_places file k (grid_places g)) ≡ length (grid_places g) * k) (ap size_of typed) part.whole) in
      ap numbers_of (selected file values same part)
      ∙ numbers_are_there file (record_size_of_file p) x (indices_of s) (each_whole file (record_size_of_file p) x (indices_of s) whole)

  pub all_counted : (total : ℕ) → grid_places g ≡ places_of (record_size_of_file q) (var_at (vars_of q) n) s → total ≡ count_of empty + grid_count g → total ≡ selected_count s
  all_counted total same is =
      let long : grid_count g ≡ selected_count s =
      sym (length-map-range_with_len (place_at g.base g.axes.items) 0 g.count) ∙ ap length (grid_is same) ∙ length-map (indices_of s) (place_of (record_size_of_file p) x) in
      omega (arith, is, counted, long)

  pub all_calls : (old new : ℕ) → grid_places g ≡ places_of (record_size_of_file q) (var_at (vars_of q) n) s → new ≤ old + all_stretches (size_of (type_of empty)) (grid_places g)
      → new ≤ old + all_stretches (size_of x.xtype) (places_of (record_size_of_file p) x s)
  all_calls old new same few =
      subst (λ (places : List ℕ). new ≤ old + all_stretches (size_of x.xtype) places) (grid_is same)
      (subst (λ (size : ℕ). new ≤ old + all_stretches size (grid_places g)) (ap size_of typed) few)
