-- What a file has at an element, and in a selection.
use Rattle.std.specs.Prelude.{◌≡◌, ℕ, ◌*◌, ℤ, pos, List, length, map, take, drop}
use Rattle.std.specs.List.{flat_map}
use Rattle.ncc_values.specs.declared.values.Values.{Values}
use Rattle.ncc_values.specs.declared.values.Values.TheVariants.{Bytes, Chars, Shorts, Ints, Floats, Doubles, UBytes, UShorts, UInts, Int64s, UInt64s}
use Rattle.ncc_values.specs.XType.{size_of}
use Rattle.ncc_values.specs.External.{number_in}
use Rattle.ncc_values.specs.Values.{values_of, with_bytes}
use Rattle.ncc_layout.specs.declared.placed_var.PlacedVar.{PlacedVar}
use Rattle.ncc_layout.specs.Elements.{place_of}
use Rattle.ncc_slab.specs.declared.slab.Slab.{Slab}
use Rattle.ncc_slab.specs.Selection.{indices_of}

-- ---- one element

-- so many bytes of the file, from a place on
abbrev pub bytes_at : (file : List ℕ) → (place count : ℕ) → List ℕ
bytes_at file place n = take n (drop place file)

abbrev pub element_bytes : (file : List ℕ) → (record_size : ℕ) → PlacedVar → (index : List ℕ) → List ℕ
element_bytes file record_size x index = bytes_at file (place_of record_size x index) (size_of x.xtype)

-- the number that an element's bytes are
abbrev pub number_at : (file : List ℕ) → (record_size : ℕ) → PlacedVar → (index : List ℕ) → ℤ
number_at file record_size x index = number_in x.xtype (element_bytes file record_size x index)

-- ---- the elements of a selection

-- the place of each selected element, in their order
abbrev pub places_of : (record_size : ℕ) → PlacedVar → Slab → List ℕ
places_of record_size x s = map (place_of record_size x) (indices_of s)

-- the bytes of elements of one size at these places, one element after the other
abbrev pub bytes_at_places : (file : List ℕ) → (size : ℕ) → (places : List ℕ) → List ℕ
bytes_at_places file size places = flat_map (λ place. bytes_at file place size) places

-- the bytes of these elements, one element after the other
abbrev pub bytes_of_elements : (file : List ℕ) → (record_size : ℕ) → PlacedVar → (indices : List (List ℕ)) → List ℕ
bytes_of_elements file record_size x indices = flat_map (element_bytes file record_size x) indices

-- the values at these index lists
abbrev pub values_at : (file : List ℕ) → (record_size : ℕ) → PlacedVar → (indices : List (List ℕ)) → Values
values_at file record_size x indices = values_of x.xtype (bytes_of_elements file record_size x indices)

-- these are the values of the selection, in its order
abbrev pub Selected : (file : List ℕ) → (record_size : ℕ) → PlacedVar → Slab → Values → Type 0
Selected file record_size x s values = values ≡ values_at file record_size x (indices_of s)

-- ---- parts of a selection

-- so many of its index lists, after the first ones
abbrev pub part_of : Slab → (first count : ℕ) → List (List ℕ)
part_of s first n = take n (drop first (indices_of s))

-- the values, and after them those of a part of the selection
abbrev pub AddsPart : (file : List ℕ) → (record_size : ℕ) → PlacedVar → Slab → (first count : ℕ) → (old new : Values) → Type 0
AddsPart file record_size x s first n old new = new ≡ with_bytes old (bytes_of_elements file record_size x (part_of s first n))

-- the values, and after them those at these places, of which the file has all bytes
pub record AddsPlaces (file : List ℕ) (size : ℕ) (places : List ℕ) (old new : Values) : Type 0 where
  pub is : new ≡ with_bytes old (bytes_at_places file size places)
  pub whole : length (bytes_at_places file size places) ≡ length places * size

-- ---- values as numbers

-- the number of each value
abbrev pub numbers_of : Values → List ℤ
numbers_of (Bytes items) = items
numbers_of (Chars items) = map (λ x. pos x.0) items
numbers_of (Shorts items) = items
numbers_of (Ints items) = items
numbers_of (Floats items) = map (λ x. pos x.0) items
numbers_of (Doubles items) = map (λ x. pos x.0) items
numbers_of (UBytes items) = map (λ x. pos x) items
numbers_of (UShorts items) = map (λ x. pos x) items
numbers_of (UInts items) = map (λ x. pos x) items
numbers_of (Int64s items) = items
numbers_of (UInt64s items) = map (λ x. pos x) items
