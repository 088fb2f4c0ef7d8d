-- What holds of rows and of picks.
use Rattle.std.specs.Prelude.{◌≡◌, ℕ, ◌+◌, ◌^◌, ◌<◌, ◌≤◌, Some, List, ◌++◌, map, length}
use Rattle.std.specs.List.{AllByRecursion}
use Rattle.ncc_layout.specs.declared.placed_var.PlacedVar.{PlacedVar}
use Rattle.ncc_values.specs.Values.{type_of}
use Rattle.ncc_values.specs.declared.values.Values.{Values}
use Rattle.ncc_slab.specs.Refusals.{FitsIn, shape_fault}
use Rattle.ncc_slab.specs.Selected.{number_at, numbers_of, part_of}
use Rattle.ncc_slab.specs.Selection.{indices_of, selected_count}
use Rattle.ncc_slab.specs.declared.fault.SlabFault.{SlabFault}
use Rattle.ncc_slab.specs.declared.slab.Slab.{Slab}
use Rattle.ncc_lines.specs.declared.style.FloatStyle.{FloatStyle}
use Rattle.ncc_csv.specs.Csv.{rows_text}
use Rattle.ncc_csv.specs.Picks.{picked, pick_fault}
use Rattle.ncc_csv.specs.Rows.{HasIndices, part_text}
use Rattle.ncc_csv.specs.declared.pick.Pick.{Pick}

-- all indices of a selection that fits in a shape of 64-bit lengths are numbers of 64 bits
abbrev pub FittingHasIndices : Type 0
FittingHasIndices = (lengths : List ℕ) (s : Slab) → FitsIn lengths s → AllByRecursion (λ l. l < 2 ^ 64) lengths → HasIndices s

-- the rows of values are those of their elements, where the values have the numbers that the file has there
abbrev pub PartIsOfElements : Type 0
PartIsOfElements = (style : FloatStyle) (file : List ℕ) (record_size : ℕ) (x : PlacedVar) (s : Slab) (first n : ℕ) (values : Values) → first + n ≤ selected_count s → type_of values ≡ x.xtype
    → numbers_of values ≡ map (number_at file record_size x) (part_of s first n) → part_text style s first values ≡ rows_text style file record_size x (part_of s first n)

-- the rows of a part, and after them those of the next one, are the rows of both
abbrev pub RowsJoin : Type 0
RowsJoin = (style : FloatStyle) (file : List ℕ) (record_size : ℕ) (x : PlacedVar) (s : Slab) (first m n : ℕ)
    → rows_text style file record_size x (part_of s first (m + n))
    ≡ rows_text style file record_size x (part_of s first m) ++ rows_text style file record_size x (part_of s (first + m) n)

-- the first elements, as many as are selected, are those of the selection
abbrev pub AllAreSelected : Type 0
AllAreSelected = (s : Slab) → part_of s 0 (selected_count s) ≡ indices_of s

-- what is refused before a count is sought is the fault of the selection
abbrev pub PickFaultIsShapeFault : Type 0
PickFaultIsShapeFault = (lengths : List ℕ) (p : Pick) (f : SlabFault) → pick_fault (length lengths) p ≡ Some f → shape_fault lengths (picked lengths p) ≡ Some f
