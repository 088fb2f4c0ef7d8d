-- The rows of a selection.
use Rattle.std.specs.Prelude.{◌≡◌, ℕ, ℤ, ◌+◌, ◌*◌, ◌^◌, ◌<◌, false, List, [], ◌∷◌, ◌++◌, map, length, get_or, decimal, Option}
use Rattle.std.specs.Io.KnownBytes.{Appends}
use Rattle.std.specs.List.{flat_map}
use Rattle.csv.specs.Writing.{row_text, default_writer, writer_setup, fields_written, has_written, text_written}
use Rattle.csv.specs.declared.writer.Writer.{Writer}
use Rattle.ncc_values.specs.Values.{type_of, count_of}
use Rattle.ncc_values.specs.declared.values.Values.{Values}
use Rattle.ncc_values.specs.declared.xtype.XType.{XType}
use Rattle.ncc_slab.specs.Selected.{part_of, numbers_of}
use Rattle.ncc_slab.specs.declared.slab.Slab.{Slab}
use Rattle.ncc_csv.specs.Values.{number_text}
use Rattle.ncc_lines.specs.declared.style.FloatStyle.{FloatStyle}

-- ---- rows

-- indices in the whole array, and what is shown of the value
abbrev pub element_row : (index text : List ℕ) → List (List ℕ)
element_row index text = map decimal index ++ text ∷ []

-- indices in the whole array, and the value with this number
abbrev pub value_row : FloatStyle → XType → (index : List ℕ) → (number : ℤ) → List (List ℕ)
value_row style t index z = element_row index (number_text style t z)

-- a row for each value
abbrev pub value_rows : FloatStyle → XType → (indices : List (List ℕ)) → (numbers : List ℤ) → List (List (List ℕ))
value_rows style t (i ∷ indices) (z ∷ numbers) = value_row style t i z ∷ value_rows style t indices numbers
value_rows style t _ _ = []

-- ---- their text

abbrev pub row_line : (row : List (List ℕ)) → List ℕ
row_line row = row_text default_writer row

-- of the values of a selection from the element with this number on
abbrev pub part_text : FloatStyle → Slab → (first : ℕ) → Values → List ℕ
part_text style s first values =
    flat_map row_line (value_rows style (type_of values) (part_of s first (count_of values)) (numbers_of values))

-- ---- indices

-- as many starts and strides as counts, and all indices are numbers of 64 bits
pub record HasIndices (s : Slab) : Type 0 where
  pub starts : length s.start ≡ length s.count
  pub strides : length s.stride ≡ length s.count
  pub below : (i k : ℕ) → i < length s.count → k < get_or s.count i 0 → get_or s.start i 0 + k * get_or s.stride i 0 < 2 ^ 64

-- ---- a writer of rows

-- between two rows
pub record IsBetween {W : Type 0} (w : Writer W) : Type 0 where
  pub setup : writer_setup w ≡ default_writer
  pub fields : fields_written w ≡ 0
  pub clean : has_written w ≡ false

-- this text was added, and the writer is between two rows
pub record Adds {W : Type 0} (contents : W → Option (List ℕ)) (old new : Writer W) (added : List ℕ) : Type 0 where
  pub between : IsBetween new
  pub text : Appends (text_written contents old) (text_written contents new) added
