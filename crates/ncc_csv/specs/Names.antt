-- The row of names.
use Rattle.std.specs.Prelude.{ℕ, List, [], ◌∷◌, ◌++◌, map}
use Rattle.ncc_schema.specs.declared.schema.Dim.{Dim}
use Rattle.ncc_schema.specs.declared.schema.Var.{Var}
use Rattle.ncc_lines.specs.Texts.{name_of}
use Rattle.ncc_lines.specs.Words.{name_text}
use Rattle.ncc_csv.specs.Rows.{row_line}

-- the names of these dimensions, and one more, each as `list` prints it
abbrev pub names_row : List Dim → (numbers name : List ℕ) → List (List ℕ)
names_row dims numbers name = map name_text (map (name_of dims) numbers ++ name ∷ [])

-- the names of a variable's dimensions, and its own
abbrev pub name_row : List Dim → Var → List (List ℕ)
name_row dims x = names_row dims x.dims x.name

abbrev pub names_text : List Dim → Var → List ℕ
names_text dims x = row_line (name_row dims x)
