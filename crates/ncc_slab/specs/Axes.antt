-- Places as sums: how far an element lies from the first selected one, by its number.
use Rattle.std.specs.Prelude.{◌≡◌, ℕ, ◌+◌, ◌-◌, ◌*◌, ◌/◌, ◌%◌, ◌<◌, ◌==◌, Bool, true, false, if◌then◌else◌, List, [], ◌∷◌, map, length, get_or}
use Rattle.std.specs.List.{AllByRecursion, range_with_len}
use Rattle.ncc_values.specs.XType.{size_of}
use Rattle.ncc_layout.specs.declared.placed_var.PlacedVar.{PlacedVar}
use Rattle.ncc_layout.specs.declared.placed_file.Placed.{Placed}
use Rattle.ncc_layout.specs.Placed.{vars_of}
use Rattle.ncc_layout.specs.Elements.{var_at}
use Rattle.ncc_layout.specs.Sizes.{product}
use Rattle.ncc_slab.specs.declared.slab.Slab.{Slab}
use Rattle.ncc_slab.specs.Refusals.{FitsIn}
use Rattle.ncc_slab.specs.declared.axis.Axis.{Axis}

-- ---- by axes

-- how far the n-th element lies from the first
abbrev pub offset_at : List Axis → (n : ℕ) → ℕ
offset_at [] n = 0
offset_at (a ∷ axes) n = n / a.width * a.step + offset_at axes (n % a.width)

abbrev pub place_at : (base : ℕ) → List Axis → (n : ℕ) → ℕ
place_at base axes n = base + offset_at axes n

-- the places of so many elements from the n-th on
abbrev pub places_from : (base : ℕ) → List Axis → (n count : ℕ) → List ℕ
places_from base axes n count = map (place_at base axes) (range_with_len n count)

abbrev pub no_axis : Axis
no_axis = record { step = 0; width = 0 }

-- no axis has a width of 0
abbrev pub AreWide : List Axis → Type 0
AreWide axes = (k : ℕ) → k < length axes → 0 < (get_or axes k no_axis).width

-- ---- by dimensions

-- an axis for each dimension with more than one index: its step, and how many elements share an index of it
abbrev pub axes_of : (count steps : List ℕ) → List Axis
axes_of (c ∷ cs) (d ∷ ds) = if c == 1 then axes_of cs ds else record { step = d; width = product cs } ∷ axes_of cs ds
axes_of _ _ = []

-- the bytes from one index of each dimension to the next, where elements lie row-major
abbrev pub inner_units : (size : ℕ) → (lengths : List ℕ) → List ℕ
inner_units size [] = []
inner_units size (l ∷ ls) = product ls * size ∷ inner_units size ls

-- the same for a variable; of a record variable the first is the record size
abbrev pub units : (record_size size : ℕ) → (is_record : Bool) → (lengths : List ℕ) → List ℕ
units record_size size true (n ∷ ls) = record_size ∷ inner_units size ls
units record_size size true [] = []
units record_size size false ls = inner_units size ls

-- the sum of the products
abbrev pub dot : (units index : List ℕ) → ℕ
dot (u ∷ us) (i ∷ is) = i * u + dot us is
dot _ _ = 0

-- the products
abbrev pub times : (units stride : List ℕ) → List ℕ
times (u ∷ us) (d ∷ ds) = d * u ∷ times us ds
times _ _ = []

-- the index list of the last selected element
abbrev pub last_of : (start count stride : List ℕ) → List ℕ
last_of (s ∷ ss) (c ∷ cs) (d ∷ ds) = (s + (c - 1) * d) ∷ last_of ss cs ds
last_of _ _ _ = []

-- ---- lists of numbers

abbrev pub ArePositive : List ℕ → Type 0
ArePositive ns = AllByRecursion (λ n. 0 < n) ns

-- as many starts, counts and strides as lengths
pub record HasRank (lengths start count stride : List ℕ) : Type 0 where
  pub starts : length start ≡ length lengths
  pub counts : length count ≡ length lengths
  pub strides : length stride ≡ length lengths

-- ---- a selection

abbrev pub units_of : (record_size : ℕ) → PlacedVar → List ℕ
units_of record_size x = units record_size (size_of x.xtype) x.extent.is_record x.shape

-- the place of its first element
abbrev pub base_of : (record_size : ℕ) → PlacedVar → Slab → ℕ
base_of record_size x s = x.extent.begin + dot (units_of record_size x) s.start

abbrev pub selection_axes : (record_size : ℕ) → PlacedVar → Slab → List Axis
selection_axes record_size x s = axes_of s.count (times (units_of record_size x) s.stride)

-- a selection that isn't refused, of at least one element
pub record SelectsSome (p : Placed) (number : ℕ) (s : Slab) : Type 0 where
  pub there : number < length (vars_of p)
  pub fits : FitsIn (var_at (vars_of p) number).shape s
  pub some : ArePositive s.count
