-- Which elements a selection has, and their order (netCDF: along each dimension `start` is the first index, `count`
-- the number of indices, and `stride` the step from one index to the next).
use Rattle.std.specs.Prelude.{ℕ, ◌+◌, ◌-◌, ◌*◌, ◌/◌, nat_lt, if◌then◌else◌, List, [], ◌∷◌, map, length}
use Rattle.std.specs.List.{flat_map, range_with_len}
use Rattle.ncc_slab.specs.declared.slab.Slab.{Slab}

-- all lists of as many numbers as counts, each below its own; row-major: the last dimension is the fastest
abbrev pub index_lists : (count : List ℕ) → List (List ℕ)
index_lists [] = [] ∷ []
index_lists (c ∷ cs) = flat_map (λ k. map (λ ks. k ∷ ks) (index_lists cs)) (range_with_len 0 c)

-- start + k x stride along each dimension
abbrev pub index_of : (start stride k : List ℕ) → List ℕ
index_of (s ∷ ss) (d ∷ ds) (k ∷ ks) = (s + k * d) ∷ index_of ss ds ks
index_of _ _ _ = []

-- the index lists of a selection, row-major
abbrev pub selected_indices : (start count stride : List ℕ) → List (List ℕ)
selected_indices start count stride = map (index_of start stride) (index_lists count)

abbrev pub indices_of : Slab → List (List ℕ)
indices_of s = selected_indices s.start s.count s.stride

-- how many elements are selected
abbrev pub selected_count : Slab → ℕ
selected_count s = length (indices_of s)

-- as many indices as fit from start on, where no count is given
abbrev pub fitting_count : (room start stride : ℕ) → ℕ
fitting_count room start stride = if nat_lt start room then (room - start - 1) / stride + 1 else 0
