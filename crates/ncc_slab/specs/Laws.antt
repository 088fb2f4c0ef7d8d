-- What holds of selections.
use Rattle.std.specs.Prelude.{◌≡◌, ℕ, ◌+◌, ◌<◌, ◌≤◌, ◌↔◌, None, List, [], ◌∷◌, map, length, get_or, take, drop}
use Rattle.std.specs.List.{AllByRecursion}
use Rattle.ncc_values.specs.Values.{type_of, count_of, no_values}
use Rattle.ncc_values.specs.declared.values.Values.{Values}
use Rattle.ncc_values.specs.declared.xtype.XType.{XType}
use Rattle.ncc_values.specs.XType.{size_of}
use Rattle.ncc_layout.specs.declared.placed_var.PlacedVar.{PlacedVar}
use Rattle.ncc_layout.specs.declared.placed_file.Placed.{Placed}
use Rattle.ncc_layout.specs.Sizes.{product}
use Rattle.ncc_layout.specs.Elements.{Inside, place_of, row_major, var_at, Own}
use Rattle.ncc_layout.specs.Placed.{record_size_of_file, vars_of}
use Rattle.ncc_slab.specs.declared.slab.Slab.{Slab}
use Rattle.ncc_slab.specs.Selection.{index_lists, indices_of, selected_count, fitting_count}
use Rattle.ncc_slab.specs.Selected.{bytes_at, bytes_of_elements, element_bytes, values_at, Selected, part_of, AddsPart, AddsPlaces, places_of, number_at, numbers_of}
use Rattle.ncc_slab.specs.Answers.{part_count, TakesPart}
use Rattle.ncc_slab.specs.Refusals.{shape_fault, slab_fault, EndsBy, FitsIn}
use Rattle.ncc_slab.specs.SlabPlaces.{slab_begin, HasSlab}
use Rattle.ncc_slab.specs.WholeSlabs.{whole_slab}

-- as many elements are selected as the product of the counts
abbrev pub CountIsProduct : Type 0
CountIsProduct = (s : Slab) → selected_count s ≡ product s.count

-- a selection has no more elements than the variable
abbrev pub SelectsAtMostAll : Type 0
SelectsAtMostAll = (lengths : List ℕ) (s : Slab) → shape_fault lengths s ≡ None → selected_count s ≤ product lengths

-- where no count is given all indices from start on that fit are taken: the last is below the length, and one more isn't
abbrev pub CountFits : Type 0
CountFits = (room start stride : ℕ) → start ≤ room → 0 < stride
    → EndsBy room start (fitting_count room start stride) stride × (EndsBy room start (fitting_count room start stride + 1) stride → ⊥)

-- the n-th of the lists below these counts has the row-major number n
abbrev pub OrderIsRowMajor : Type 0
OrderIsRowMajor = (count : List ℕ) (n : ℕ) → n < product count → row_major count (get_or (index_lists count) n []) ≡ n

-- a selection isn't refused exactly where it fits in the shape
abbrev pub RefusedUnlessItFits : Type 0
RefusedUnlessItFits = (lengths : List ℕ) (s : Slab) → (shape_fault lengths s ≡ None) ↔ FitsIn lengths s

-- what is selected is there
abbrev pub SelectedIsInside : Type 0
SelectedIsInside = (lengths : List ℕ) (s : Slab) → shape_fault lengths s ≡ None → AllByRecursion (Inside lengths) (indices_of s)

-- the file has all bytes of these elements
abbrev pub AreWhole : (file : List ℕ) → (record_size : ℕ) → PlacedVar → (indices : List (List ℕ)) → Type 0
AreWhole file record_size x indices = AllByRecursion (λ i. length (element_bytes file record_size x i) ≡ size_of x.xtype) indices

-- the number of each value is that of its element
abbrev pub NumbersAreThere : Type 0
NumbersAreThere = (file : List ℕ) (record_size : ℕ) (x : PlacedVar) (indices : List (List ℕ)) → AreWhole file record_size x indices
    → numbers_of (values_at file record_size x indices) ≡ map (number_at file record_size x) indices

-- a part, and after it the next one, are one part
abbrev pub PartsJoin : Type 0
PartsJoin = (file : List ℕ) (record_size : ℕ) (x : PlacedVar) (s : Slab) (first m n : ℕ) (old mid new : Values) → AreWhole file record_size x (indices_of s) → type_of old ≡ x.xtype
    → AddsPart file record_size x s first m old mid → AddsPart file record_size x s (first + m) n mid new → AddsPart file record_size x s first (m + n) old new

-- the part that is the whole selection, after no values, is what is selected
abbrev pub WholePartIsSelected : Type 0
WholePartIsSelected = (file : List ℕ) (record_size : ℕ) (x : PlacedVar) (s : Slab) (values : Values)
    → AddsPart file record_size x s 0 (selected_count s) (no_values x.xtype) values → Selected file record_size x s values

-- where every element has its bytes in a file that is no longer than these bytes, a selection that isn't refused has them
abbrev pub SelectedIsWhole : Type 0
SelectedIsWhole = (file : List ℕ) (header most record_size : ℕ) (vars : List PlacedVar) (n : ℕ) (s : Slab) → Own header most record_size vars
    → most ≤ length file → slab_fault vars n s ≡ None → AreWhole file record_size (var_at vars n) (indices_of s)

-- and they lie inside it
abbrev pub SelectedIsInFile : Type 0
SelectedIsInFile = (header file record_size : ℕ) (vars : List PlacedVar) (n : ℕ) (s : Slab) → Own header file record_size vars → slab_fault vars n s ≡ None
    → AllByRecursion (λ place. place + size_of (var_at vars n).xtype ≤ file) (places_of record_size (var_at vars n) s)

-- ---- parts by their places

-- there are as many places as selected elements
abbrev pub PlacesAreCounted : Type 0
PlacesAreCounted = (record_size : ℕ) (x : PlacedVar) (s : Slab) → length (places_of record_size x s) ≡ selected_count s

-- the places of a part
abbrev pub PartHasPlaces : Type 0
PartHasPlaces = (record_size : ℕ) (x : PlacedVar) (s : Slab) (first n : ℕ)
    → take n (drop first (places_of record_size x s)) ≡ map (place_of record_size x) (part_of s first n)

-- values are added at the places of a part exactly where they are those of the part and the file has all its bytes
abbrev pub PlacesAddPart : Type 0
PlacesAddPart = (file : List ℕ) (record_size : ℕ) (x : PlacedVar) (s : Slab) (first n : ℕ) (old new : Values)
    → AddsPlaces file (size_of x.xtype) (take n (drop first (places_of record_size x s))) old new
    ↔ (AddsPart file record_size x s first n old new × AreWhole file record_size x (part_of s first n))

-- after no values, the number of each value is that of its element
abbrev pub PartHasNumbers : Type 0
PartHasNumbers = (file : List ℕ) (record_size : ℕ) (x : PlacedVar) (s : Slab) (first n : ℕ) (old new : Values) → type_of old ≡ x.xtype → count_of old ≡ 0
    → AddsPlaces file (size_of x.xtype) (take n (drop first (places_of record_size x s))) old new
    → numbers_of new ≡ map (number_at file record_size x) (part_of s first n)

-- where the first elements are taken, the next part is of those after them, and what it leaves is what is after both
abbrev pub PartsGoOn : Type 0
PartsGoOn = (record_size : ℕ) (x : PlacedVar) (s : Slab) (size first n : ℕ) (old new : List ℕ) → first ≤ selected_count s → old ≡ drop first (places_of record_size x s)
    → TakesPart size old new n → (first + n ≤ selected_count s) × (new ≡ drop (first + n) (places_of record_size x s))

-- a part is empty exactly where nothing is left
abbrev pub NoPartIsTheEnd : Type 0
NoPartIsTheEnd = (t : XType) (left : List ℕ) → (part_count (size_of t) left ≡ 0) ↔ (left ≡ [])

-- nothing is left exactly where all are taken
abbrev pub EndIsAllTaken : Type 0
EndIsAllTaken = (record_size : ℕ) (x : PlacedVar) (s : Slab) (first : ℕ) → first ≤ selected_count s → (drop first (places_of record_size x s) ≡ []) ↔ (first ≡ selected_count s)

-- ---- all parts

-- part after part was taken of these places, until none is left, and each added the values at its places
abbrev pub TakesAll : (file : List ℕ) → (size : ℕ) → (counts left : List ℕ) → (old new : Values) → Type 0
TakesAll file size [] left old new = (left ≡ []) × (new ≡ old)
TakesAll file size (n ∷ counts) left old new = (rest : List ℕ) × (mid : Values) × TakesPart size left rest n
    × AddsPlaces file size (take n left) old mid × TakesAll file size counts rest mid new

-- all parts, one after another, are what is selected
abbrev pub PartsAreSelected : Type 0
PartsAreSelected = (file : List ℕ) (record_size : ℕ) (x : PlacedVar) (s : Slab) (counts : List ℕ) (values : Values)
    → TakesAll file (size_of x.xtype) counts (places_of record_size x s) (no_values x.xtype) values → Selected file record_size x s values

-- ---- whole slabs

-- the selection of a slab that is there isn't refused
abbrev pub WholeSlabIsThere : Type 0
WholeSlabIsThere = (p : Placed) (var number : ℕ) → HasSlab p var number → slab_fault (vars_of p) var (whole_slab (var_at (vars_of p) var) number) ≡ None

-- the bytes of its elements, one after the other, are those of the file from where it begins, as many as the slab has
abbrev pub WholeSlabAdjoins : Type 0
WholeSlabAdjoins = (p : Placed) (file : List ℕ) (var number : ℕ) → HasSlab p var number
    → bytes_of_elements file (record_size_of_file p) (var_at (vars_of p) var) (indices_of (whole_slab (var_at (vars_of p) var) number))
    ≡ bytes_at file (slab_begin (record_size_of_file p) (var_at (vars_of p) var) number) (var_at (vars_of p) var).extent.slab
