-- A char variable as texts: what `ncc csv --text` prints of a selection of it.
use Rattle.std.specs.Prelude.{ℕ, zero, suc, ◌+◌, ◌-◌, ◌*◌, ◌&&◌, ℤ, pos, negsuc, Bool, true, false, if◌then◌else◌, List, [], ◌∷◌, ◌++◌, map, take, length, get_or}
use Rattle.std.specs.List.{flat_map, range_with_len}
use Rattle.ncc_values.specs.declared.xtype.XType.{XType}
use Rattle.ncc_values.specs.declared.xtype.XType.TheVariants.{Byte, Char, Short, Int, Float, Double, UByte, UShort, UInt, Int64, UInt64}
use Rattle.ncc_schema.specs.declared.schema.Dim.{Dim}
use Rattle.ncc_schema.specs.declared.schema.Var.{Var}
use Rattle.ncc_layout.specs.declared.placed_var.PlacedVar.{PlacedVar}
use Rattle.ncc_lines.specs.Words.{name_text}
use Rattle.ncc_lines.specs.declared.style.FloatStyle.{FloatStyle}
use Rattle.ncc_slab.specs.Selected.{number_at}
use Rattle.ncc_slab.specs.Selection.{selected_indices}
use Rattle.ncc_slab.specs.declared.slab.Slab.{Slab}
use Rattle.ncc_csv.specs.Csv.{csv_text}
use Rattle.ncc_csv.specs.Names.{names_row}
use Rattle.ncc_csv.specs.Rows.{row_line, element_row}

-- ---- a text

-- a byte, and what is left of the text after it; a NUL before nothing is at the end
abbrev pub keep_byte : (byte : ℕ) → (rest : List ℕ) → List ℕ
keep_byte b (c ∷ rest) = b ∷ c ∷ rest
keep_byte zero [] = []
keep_byte (suc n) [] = suc n ∷ []

-- all but the NULs at its end
abbrev pub without_end_nuls : (text : List ℕ) → List ℕ
without_end_nuls [] = []
without_end_nuls (b ∷ text) = keep_byte b (without_end_nuls text)

-- as `list` prints bytes
abbrev pub shown_text : (text : List ℕ) → List ℕ
shown_text text = name_text (without_end_nuls text)

-- ---- indices

-- all but the last
abbrev pub but_last : List ℕ → List ℕ
but_last numbers = take (length numbers - 1) numbers

abbrev pub last_number : List ℕ → ℕ
last_number numbers = get_or numbers (length numbers - 1) 0

-- the lists of selected indices along all dimensions but the last, row-major
abbrev pub leading_indices : Slab → List (List ℕ)
leading_indices s = selected_indices (but_last s.start) (but_last s.count) (but_last s.stride)

-- the selected indices along the last dimension
abbrev pub last_indices : Slab → List ℕ
last_indices s = map (λ k. last_number s.start + k * last_number s.stride) (range_with_len 0 (last_number s.count))

-- ---- rows

-- a char's number is that of its byte, which is none below 0
abbrev pub byte_of : ℤ → ℕ
byte_of (pos n) = n
byte_of (negsuc n) = 0

abbrev pub byte_at : (file : List ℕ) → (record_size : ℕ) → PlacedVar → (index : List ℕ) → ℕ
byte_at file record_size x index = byte_of (number_at file record_size x index)

-- the selected characters along the last dimension, at these other indices
abbrev pub text_at : (file : List ℕ) → (record_size : ℕ) → PlacedVar → Slab → (leading : List ℕ) → List ℕ
text_at file record_size x s leading = map (λ i. byte_at file record_size x (leading ++ i ∷ [])) (last_indices s)

-- these indices in the whole array, and the text
abbrev pub text_row : (file : List ℕ) → (record_size : ℕ) → PlacedVar → Slab → (leading : List ℕ) → List (List ℕ)
text_row file record_size x s leading = element_row leading (shown_text (text_at file record_size x s leading))

-- a row for each list of the leading indices
abbrev pub texts_text : (file : List ℕ) → (record_size : ℕ) → PlacedVar → Slab → List ℕ
texts_text file record_size x s = flat_map row_line (map (text_row file record_size x s) (leading_indices s))

-- ---- a sheet

-- the names of all dimensions but the last, and the variable's
abbrev pub text_names : List Dim → Var → List ℕ
text_names dims x = row_line (names_row dims (but_last x.dims) x.name)

abbrev pub text_sheet : List Dim → Var → (file : List ℕ) → (record_size : ℕ) → PlacedVar → Slab → List ℕ
text_sheet dims var file record_size x s = text_names dims var ++ texts_text file record_size x s

-- ---- which of the two is printed

-- a char with a dimension
abbrev pub has_texts : XType → (lengths : List ℕ) → Bool
has_texts t [] = false
has_texts Char (l ∷ lengths) = true
has_texts Byte (l ∷ lengths) = false
has_texts Short (l ∷ lengths) = false
has_texts Int (l ∷ lengths) = false
has_texts Float (l ∷ lengths) = false
has_texts Double (l ∷ lengths) = false
has_texts UByte (l ∷ lengths) = false
has_texts UShort (l ∷ lengths) = false
has_texts UInt (l ∷ lengths) = false
has_texts Int64 (l ∷ lengths) = false
has_texts UInt64 (l ∷ lengths) = false

-- with the option: texts where there are any; else a row for each element
abbrev pub printed_text : FloatStyle → (texts : Bool) → List Dim → Var → (file : List ℕ) → (record_size : ℕ) → PlacedVar → Slab → List ℕ
printed_text style texts dims var file record_size x s =
    if texts && has_texts x.xtype x.shape then text_sheet dims var file record_size x s
    else csv_text style dims var file record_size x s
