-- The bar of the whole file.
use Rattle.std.specs.Prelude.{ℕ, ltb, max, Bool, false, List, [], ◌++◌, Option, Some, None, if◌then◌else◌, codes}
use Rattle.ncc_schema.specs.declared.schema.Schema.{Schema}
use Rattle.ncc_places.specs.declared.ends.Records.{Records}
use Rattle.ncc_places.specs.Words.{rest_line}
use Rattle.ncc_picture.specs.declared.frame.Frame.{Frame}
use Rattle.ncc_picture.specs.declared.parts.Part.{Part}
use Rattle.ncc_picture.specs.Marks.{text_at}
use Rattle.ncc_picture.specs.Spans.{span}
use Rattle.ncc_picture.specs.Words.{counted_words, file_label}
use Rattle.ncc_picture.specs.Variables.{file_parts, gaps}
use Rattle.ncc_picture.specs.Bands.{band_of}

-- where the bar ends: the end of the file, or of all that the header speaks of
abbrev pub far_of : Frame → ℕ
far_of f = max f.file_length f.past

-- there is a record
abbrev pub has_records : Option Records → Bool
has_records None = false
has_records (Some r) = ltb 0 r.count

-- what is missing, or follows all
abbrev pub rest : (far file past : ℕ) → List ℕ
rest far file past =
    if ltb file past then span far 30 (codes "bad") file past (rest_line file past)
    else if ltb past file then span far 30 (codes "after") past file (rest_line file past)
    else []

abbrev pub header_words : (header : ℕ) → List ℕ
header_words header = counted_words (codes "header 0 ") header

-- how far it goes, all of it in white, and the header
abbrev pub file_ground : Frame → List ℕ
file_ground f =
    text_at 0 22 (counted_words file_label (far_of f))
    ++ (span (far_of f) 30 (codes "gap") 0 (far_of f) (counted_words (codes "file ") f.file_length)
    ++ span (far_of f) 30 (codes "header") 0 f.header_length (header_words f.header_length))

abbrev pub file_bar : Schema → Frame → List Part → List ℕ
file_bar s f parts =
    file_ground f ++ (gaps s (far_of f) (has_records f.records) parts ++ (band_of (far_of f) f.records
    ++ (file_parts s (far_of f) (has_records f.records) parts ++ rest (far_of f) f.file_length f.past)))
