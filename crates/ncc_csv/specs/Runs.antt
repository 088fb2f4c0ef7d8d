-- Rows one after the other, by their number.
use Rattle.std.specs.Prelude.{ℕ, zero, suc, ◌+◌, ◌*◌, List, [], ◌∷◌, ◌++◌, map, take, get_or, decimal}
use Rattle.ncc_slab.specs.Selection.{index_lists, index_of, indices_of}
use Rattle.ncc_slab.specs.declared.slab.Slab.{Slab}
use Rattle.ncc_csv.specs.Rows.{row_line, element_row}

-- the text of the first n of these rows
abbrev pub first_rows : (row : ℕ → List (List ℕ)) → (n : ℕ) → List ℕ
first_rows row zero = []
first_rows row (suc n) = first_rows row n ++ row_line (row n)

-- a row of a run along the last dimension: the texts of the other indices, the last one, and the value's text
abbrev pub run_row : (heads : List (List ℕ)) → (start stride : ℕ) → (texts : List (List ℕ)) → (k : ℕ) → List (List ℕ)
run_row heads start stride texts k = heads ++ decimal (start + k * stride) ∷ get_or texts k [] ∷ []

-- ---- rows of a selection

-- the texts of the first i indices, by the number of their list below the first i counts
abbrev pub leading_texts : Slab → (i number : ℕ) → List (List ℕ)
leading_texts s i number = map decimal (index_of s.start s.stride (get_or (index_lists (take i s.count)) number []))

-- the row of the k-th of these values, which begin with the element of this number
abbrev pub slab_row : Slab → (first : ℕ) → (texts : List (List ℕ)) → (k : ℕ) → List (List ℕ)
slab_row s first texts k = element_row (get_or (indices_of s) (first + k) []) (get_or texts k [])
