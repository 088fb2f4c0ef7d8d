-- The grid of a selection that isn't refused.
use Rattle.std.proofs.Common.{◌≡◌, ℕ, ◌+◌, ◌<◌, ◌≤◌, None, List, length, ltb, sym, ap, subst, ◌∙◌, arith}
use Rattle.std.specs.List.{AllByRecursion}
use Rattle.std.proofs.lemmas.Bool.{ltb-true}
use Rattle.ncc_values.specs.XType.{size_of}
use Rattle.ncc_layout.specs.declared.placed_var.PlacedVar.{PlacedVar}
use Rattle.ncc_layout.specs.declared.placed_file.Placed.{Placed}
use Rattle.ncc_layout.specs.Sizes.{product}
use Rattle.ncc_layout.specs.Elements.{var_at, Own}
use Rattle.ncc_layout.specs.Placed.{header_length_of, file_length_of, record_size_of_file, vars_of}
use Rattle.ncc_slab.specs.declared.axis.Axis.{Axis}
use Rattle.ncc_slab.specs.declared.slab.Slab.{Slab}
use Rattle.ncc_slab.specs.declared.fault.SlabFault.TheVariants.{NoVariable}
use Rattle.ncc_slab.specs.Refusals.{slab_fault, shape_fault}
use Rattle.ncc_slab.specs.Selected.{places_of}
use Rattle.ncc_slab.specs.Axes.{place_at, places_from, times, units_of, base_of, selection_axes, ArePositive, AreWide, SelectsSome}
use Rattle.ncc_slab.specs.declared.grid.Grid.{Grid}
use Rattle.ncc_slab.specs.Grids.{grid_places, EndBy}
use Rattle.ncc_slab.proofs.Fitting.{fits_from, if_none}
use Rattle.ncc_slab.proofs.Offsets.{places_are}
use Rattle.ncc_slab.proofs.OneAxis.{axes_wide}
use Rattle.ncc_slab.proofs.Ranges.{all-range}
use Rattle.ncc_slab.proofs.Whole.{selected_is_in_file}

pub selects_some : (p : Placed) (n : ℕ) (s : Slab) → slab_fault (vars_of p) n s ≡ None → ArePositive s.count → SelectsSome p n s
selects_some p n s none some =
    let parts = if_none (ltb n (length (vars_of p))) (shape_fault (var_at (vars_of p) n).shape s) NoVariable none in
    record { there = ltb-true n (length (vars_of p)) parts.0; fits = fits_from (var_at (vars_of p) n).shape s parts.1; some = some }

module _ (p : Placed) (n : ℕ) (s : Slab) (some : SelectsSome p n s) (base : ℕ) (axes : List Axis)
    (base_is : base ≡ base_of (record_size_of_file p) (var_at (vars_of p) n) s) (axes_are : axes ≡ selection_axes (record_size_of_file p) (var_at (vars_of p) n) s) where
  abbrev x : PlacedVar
  x = var_at (vars_of p) n

  pub all_places : places_from base axes 0 (product s.count) ≡ places_of (record_size_of_file p) x s
  all_places =
      ap (λ (b : ℕ). places_from b axes 0 (product s.count)) base_is
      ∙ ap (λ (all : List Axis). places_from (base_of (record_size_of_file p) x s) all 0 (product s.count)) axes_are
      ∙ sym (places_are (record_size_of_file p) x s (record { starts = some.fits.starts; counts = some.fits.counts; strides = some.fits.strides }))

  pub all_wide : AreWide axes
  all_wide = subst AreWide (sym axes_are) (axes_wide s.count (times (units_of (record_size_of_file p) x) s.stride) some.some)

  pub places_end : Own (header_length_of p) (file_length_of p) (record_size_of_file p) (vars_of p) → slab_fault (vars_of p) n s ≡ None
      → (k : ℕ) → k < product s.count → place_at base axes k + size_of x.xtype ≤ file_length_of p
  places_end own none k lt =
      let Ends : ℕ → Type 0 = λ place. place + size_of x.xtype ≤ file_length_of p in
      let all : AllByRecursion Ends (places_from base axes 0 (product s.count)) =
      subst (AllByRecursion Ends) (sym all_places) (selected_is_in_file (header_length_of p) (file_length_of p) (record_size_of_file p) (vars_of p) n s own none) in
      let same : 0 + k ≡ k = omega arith in
      subst (λ (j : ℕ). Ends (place_at base axes j)) same (all-range (place_at base axes) Ends 0 (product s.count) all k lt)

pub grid_ends : (p : Placed) (n : ℕ) (s : Slab) (g : Grid) → Own (header_length_of p) (file_length_of p) (record_size_of_file p) (vars_of p) → slab_fault (vars_of p) n s ≡ None
    → grid_places g ≡ places_of (record_size_of_file p) (var_at (vars_of p) n) s → EndBy (file_length_of p) (size_of (var_at (vars_of p) n).xtype) g
grid_ends p n s g own none same = λ k lt.
    let Ends : ℕ → Type 0 = λ place. place + size_of (var_at (vars_of p) n).xtype ≤ file_length_of p in
    let all : AllByRecursion Ends (grid_places g) =
    subst (AllByRecursion Ends) (sym same) (selected_is_in_file (header_length_of p) (file_length_of p) (record_size_of_file p) (vars_of p) n s own none) in
    let at : 0 + k ≡ k = omega arith in
    subst (λ (j : ℕ). Ends (place_at g.base g.axes.items j)) at (all-range (place_at g.base g.axes.items) Ends 0 g.count all k lt)
