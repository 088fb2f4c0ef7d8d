-- Stretches of adjoining elements, and the places that they have.
use Rattle.std.specs.Prelude.{◌≡◌, ℕ, ◌+◌, ◌*◌, ◌<◌, ◌≢◌, List, [], ◌∷◌, ◌++◌, map, drop}
use Rattle.std.specs.List.{AllByRecursion, flat_map, range_with_len}
use Rattle.ncc_values.specs.XType.{size_of}
use Rattle.ncc_layout.specs.declared.placed_var.PlacedVar.{PlacedVar}
use Rattle.ncc_slab.specs.declared.slab.Slab.{Slab}
use Rattle.ncc_slab.specs.Grids.{grid_places, grid_rest}
use Rattle.ncc_slab.specs.Selected.{places_of}
use Rattle.ncc_ranges.specs.declared.runs.SlabRuns.{SlabRuns}
use Rattle.ncc_ranges.specs.declared.runs.Stretch.{Stretch}
use Rattle.ncc_ranges.specs.Steps.{EndBy as ElementsEnd, Fits}

-- the places of the elements of a stretch, each right after the one before it
abbrev pub places_of_stretch : (size : ℕ) → Stretch → List ℕ
places_of_stretch size s = map (λ i. s.place + i * size) (range_with_len 0 s.count)

-- of all stretches, one after the other
abbrev pub places_in : (size : ℕ) → List Stretch → List ℕ
places_in size ss = flat_map (places_of_stretch size) ss

-- the places that are left
abbrev pub runs_left : SlabRuns → List ℕ
runs_left s = grid_rest s.grid s.next

abbrev pub runs_size : SlabRuns → ℕ
runs_size s = s.size

-- those of the whole selection
abbrev pub runs_all : SlabRuns → List ℕ
runs_all s = grid_places s.grid

-- the places that are left are those of the stretch, and after them the ones that are left then
abbrev pub LeavesBehind : (size : ℕ) → (old new : List ℕ) → Stretch → Type 0
LeavesBehind size old new s = old ≡ places_of_stretch size s ++ new

-- the next place that is left, where any is, doesn't adjoin the stretch
abbrev pub StopsBefore : (size : ℕ) → (left : List ℕ) → Stretch → Type 0
StopsBefore size [] s = Unit {0}
StopsBefore size (place ∷ _) s = place ≢ s.place + s.count * size

-- the places of the selection after the first ones are left, of elements of the variable's size that end in the file
pub record BeginsRuns (record_size file : ℕ) (x : PlacedVar) (s : Slab) (first : ℕ) (r : SlabRuns) : Type 0 where
  pub left : runs_left r ≡ drop first (places_of record_size x s)
  pub size : runs_size r ≡ size_of x.xtype
  pub all : runs_all r ≡ places_of record_size x s
  pub ends : ElementsEnd file (size_of x.xtype) (places_of record_size x s)
  pub fits : Fits record_size file x s

-- each stretch has an element
abbrev pub AreSome : List Stretch → Type 0
AreSome ss = AllByRecursion (λ s. 0 < s.count) ss

-- no place after a stretch adjoins it, be it of the next stretch or of those that are left
abbrev pub AreLongest : (size : ℕ) → (left : List ℕ) → List Stretch → Type 0
AreLongest size left [] = Unit {0}
AreLongest size left (s ∷ ss) = StopsBefore size (places_in size ss ++ left) s × AreLongest size left ss
