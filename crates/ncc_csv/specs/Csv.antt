-- What `ncc csv` prints of a selection of a variable.
use Rattle.std.specs.Prelude.{ℕ, List, ◌++◌, map}
use Rattle.std.specs.List.{flat_map}
use Rattle.ncc_layout.specs.declared.placed_var.PlacedVar.{PlacedVar}
use Rattle.ncc_schema.specs.declared.schema.Dim.{Dim}
use Rattle.ncc_schema.specs.declared.schema.Var.{Var}
use Rattle.ncc_slab.specs.Selected.{number_at}
use Rattle.ncc_slab.specs.Selection.{indices_of}
use Rattle.ncc_slab.specs.declared.slab.Slab.{Slab}
use Rattle.ncc_lines.specs.declared.style.FloatStyle.{FloatStyle}
use Rattle.ncc_csv.specs.Names.{names_text}
use Rattle.ncc_csv.specs.Rows.{row_line, value_row}

-- a row for each of these elements of a file
abbrev pub element_rows : FloatStyle → (file : List ℕ) → (record_size : ℕ) → PlacedVar → (indices : List (List ℕ))
    → List (List (List ℕ))
element_rows style file record_size x indices = map (λ i. value_row style x.xtype i (number_at file record_size x i)) indices

abbrev pub rows_text : FloatStyle → (file : List ℕ) → (record_size : ℕ) → PlacedVar → (indices : List (List ℕ)) → List ℕ
rows_text style file record_size x indices = flat_map row_line (element_rows style file record_size x indices)

-- the row of names, and those of all selected elements
abbrev pub csv_text : FloatStyle → List Dim → Var → (file : List ℕ) → (record_size : ℕ) → PlacedVar → Slab → List ℕ
csv_text style dims var file record_size x s = names_text dims var ++ rows_text style file record_size x (indices_of s)
