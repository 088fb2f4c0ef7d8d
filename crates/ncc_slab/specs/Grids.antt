-- The places of a selection, from its first to its last element.
use Rattle.std.specs.Prelude.{◌≡◌, ℕ, ◌+◌, ◌-◌, ◌*◌, ◌<◌, ◌≤◌, List, length, get_or, drop}
use Rattle.ncc_slab.specs.declared.axis.Axis.{Axis}
use Rattle.ncc_slab.specs.declared.grid.Grid.{Grid}
use Rattle.ncc_slab.specs.declared.grid.Run.{Run}
use Rattle.ncc_slab.specs.Axes.{offset_at, place_at, places_from, no_axis}

abbrev pub grid_place : Grid → (n : ℕ) → ℕ
grid_place g n = place_at g.base g.axes.items n

abbrev pub grid_count : Grid → ℕ
grid_count g = g.count

abbrev pub grid_places : Grid → List ℕ
grid_places g = places_from g.base g.axes.items 0 g.count

-- the places from the n-th on
abbrev pub grid_rest : Grid → (n : ℕ) → List ℕ
grid_rest g n = places_from g.base g.axes.items n (g.count - n)

-- elements of this size end by the end of a file of this length
abbrev pub EndBy : (length size : ℕ) → Grid → Type 0
EndBy length size g = (n : ℕ) → n < grid_count g → grid_place g n + size ≤ length

-- ---- elements at even distances: `size` is that of an element, or any other distance

abbrev pub axis_at : Grid → (number : ℕ) → Axis
axis_at g k = get_or g.axes.items k no_axis

-- an index of this axis moves a place by the distance for each of the elements that share it; along the last axis these
-- are one
pub record Adjoins (size : ℕ) (g : Grid) (number : ℕ) : Type 0 where
  pub step_is : (axis_at g number).step ≡ (axis_at g number).width * size
  pub last : number + 1 ≡ length g.axes.items → (axis_at g number).width ≡ 1

-- along these axes each element lies this far from the one before it
abbrev pub IsDense : (size : ℕ) → List Axis → Type 0
IsDense size axes = (n : ℕ) → offset_at axes n ≡ n * size

-- from this axis on
pub record IsDenseFrom (size : ℕ) (g : Grid) (number : ℕ) : Type 0 where
  pub there : number < length g.axes.items
  pub dense : IsDense size (drop number g.axes.items)

-- these elements from the n-th on lie so far apart
pub record IsRun (step : ℕ) (g : Grid) (n : ℕ) (run : Run) : Type 0 where
  pub some : 0 < run.count
  pub even : (i : ℕ) → i < run.count → grid_place g (n + i) ≡ run.place + i * step
