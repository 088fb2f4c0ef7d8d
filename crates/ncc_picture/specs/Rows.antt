-- The lines below the bars, each with a swatch of the colour that it speaks of, 18 units apart.
use Rattle.std.specs.Prelude.{ℕ, ◌+◌, ◌-◌, ◌*◌, ltb, min, List, [], ◌++◌, Option, Some, None, length, if◌then◌else◌, codes}
use Rattle.std.specs.List.{flat_map}
use Rattle.ncc_schema.specs.declared.schema.Schema.{Schema}
use Rattle.ncc_places.specs.declared.ends.Records.{Records}
use Rattle.ncc_places.specs.Words.{record_line, rest_line}
use Rattle.ncc_picture.specs.declared.frame.Frame.{Frame}
use Rattle.ncc_picture.specs.declared.parts.Part.{Part}
use Rattle.ncc_picture.specs.Marks.{bare, rect, text_at}
use Rattle.ncc_picture.specs.Words.{class_of, counted_words, others_words, part_words}
use Rattle.ncc_picture.specs.Parts.{other_bytes}
use Rattle.ncc_picture.specs.FileBar.{header_words}

-- a swatch and a text
abbrev pub row : (y : ℕ) (class text : List ℕ) → List ℕ
row y class text = rect class 0 y 14 12 ++ (bare ++ text_at 22 (y + 11) text)

-- where the line with a number stands, of which the first stands here
abbrev pub row_place : (top number : ℕ) → ℕ
row_place top number = top + 18 * number

-- where the first stands: below the bar of a record, where there is one
abbrev pub top_of : Option Records → ℕ
top_of None = 84
top_of (Some r) = 154

-- ---- variables

-- the line of a variable, if it has one, after those of the file and the header
abbrev pub row_by_line : (top : ℕ) (words : List ℕ) → Option ℕ → List ℕ
row_by_line top words None = []
row_by_line top words (Some line) = row (row_place top (2 + line)) (class_of (Some line)) words

abbrev pub part_row : Schema → (top : ℕ) → Part → List ℕ
part_row s top p = row_by_line top (part_words s p) p.line

abbrev pub part_rows : Schema → (top : ℕ) → List Part → List ℕ
part_rows s top parts = flat_map (part_row s top) parts

-- one line for those without a line of their own
abbrev pub others_row : (top : ℕ) → List Part → List ℕ
others_row top parts =
    if ltb 40 (length parts)
    then row (row_place top 42) (class_of None) (others_words (length parts - 40) (other_bytes parts))
    else []

-- the number of the line after those
abbrev pub after_parts : (count : ℕ) → ℕ
after_parts count = 2 + min 41 count

-- ---- records and the rest

abbrev pub records_row : (top number : ℕ) → Option Records → List ℕ
records_row top number None = []
records_row top number (Some r) = row (row_place top number) (codes "records") (record_line r)

-- the number of the line after it
abbrev pub after_records : (number : ℕ) → Option Records → ℕ
after_records number None = number
after_records number (Some r) = number + 1

abbrev pub rest_class : (file past : ℕ) → List ℕ
rest_class file past = if ltb file past then codes "bad" else codes "after"

abbrev pub rest_row : (top number file past : ℕ) → List ℕ
rest_row top number file past = row (row_place top number) (rest_class file past) (rest_line file past)

-- ---- all lines

abbrev pub head_rows : (top file header : ℕ) → List ℕ
head_rows top file header =
    row top (codes "gap") (counted_words (codes "file ") file)
    ++ row (row_place top 1) (codes "header") (header_words header)

abbrev pub last_number : Frame → (count : ℕ) → ℕ
last_number f count = after_records (after_parts count) f.records

abbrev pub tail_rows : Frame → (top count : ℕ) → List ℕ
tail_rows f top count =
    records_row top (after_parts count) f.records ++ rest_row top (last_number f count) f.file_length f.past

abbrev pub rows : Schema → Frame → (top : ℕ) → List Part → List ℕ
rows s f top parts =
    head_rows top f.file_length f.header_length
    ++ (part_rows s top parts ++ (others_row top parts ++ tail_rows f top (length parts)))

-- how high the picture is
abbrev pub height : Frame → (count : ℕ) → ℕ
height f count = row_place (top_of f.records) (last_number f count + 1)
