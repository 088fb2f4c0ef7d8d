-- What `ncc layout` prints, line by line. All places are in bytes from the start of the file.
use Rattle.std.specs.Prelude.{ℕ, ◌-◌, max, ltb, Bool, true, false, List, [], ◌∷◌, ◌++◌, Option, Some, None, if◌then◌else◌, codes, decimal}
use Rattle.ncc_schema.specs.declared.names.NameOf.TheVariants as of
use Rattle.ncc_schema.specs.declared.schema.Header.{Header}
use Rattle.ncc_schema.specs.declared.schema.Schema.{Schema}
use Rattle.ncc_schema.specs.Names.{name_of}
use Rattle.ncc_layout.specs.declared.extent.Extent.{Extent}
use Rattle.ncc_layout.specs.Extents.{end}
use Rattle.ncc_check.specs.Notes.{extents_in}
use Rattle.ncc_lines.specs.Words.{name_text}
use Rattle.ncc_places.specs.declared.ends.Records.{Records}
use Rattle.ncc_places.specs.Ends.{end_of_all, records_in}
use Rattle.ncc_places.specs.Order.{by_begin}

-- the length of the file, and the bytes of the header
unfoldable pub head_lines : (file header : ℕ) → List ℕ
head_lines file header = codes "file " ++ (decimal file ++ (codes "\nheader 0 " ++ (decimal header ++ codes "\n")))

-- ---- variables

abbrev pub kind_words : (is_record : Bool) → List ℕ
kind_words true = codes " record begin "
kind_words false = codes " fixed begin "

-- its kind, the offset of its first byte, and that of the first byte after its own ones, without padding, as the layout
-- rules have it; of a record variable those in the first record
unfoldable pub extent_words : Extent → List ℕ
extent_words e = kind_words e.is_record ++ (decimal e.begin ++ (codes " end " ++ decimal (end e)))

-- how many bytes there are from where all before it ends to its begin, or from its begin to where all before it ends
unfoldable pub between_words : (past begin : ℕ) → List ℕ
between_words past begin =
    if ltb begin past then codes " overlap " ++ decimal (past - begin) else codes " gap " ++ decimal (begin - past)

abbrev pub variable_name : Schema → (number : ℕ) → List ℕ
variable_name s n = name_text (name_of s (of.Var n))

-- the line of a variable, where all before it ends here
unfoldable pub variable_line : Schema → (past : ℕ) → Extent → List ℕ
variable_line s past e =
    codes "variable " ++ (decimal e.variable ++ (codes " " ++ (variable_name s e.variable
    ++ (extent_words e ++ (between_words past e.begin ++ codes "\n")))))

-- the lines of variables, each of which has those before it and what ends here before it
abbrev pub variable_lines : Schema → (past : ℕ) → List Extent → List ℕ
variable_lines s past [] = []
variable_lines s past (e ∷ es) = variable_line s past e ++ variable_lines s (max past (end e)) es

-- ---- records

unfoldable pub count_words : (count begin : ℕ) → List ℕ
count_words count begin = codes "records " ++ (decimal count ++ (codes " begin " ++ decimal begin))

unfoldable pub size_words : (size past : ℕ) → List ℕ
size_words size past = codes " size " ++ (decimal size ++ (codes " end " ++ (decimal past ++ codes "\n")))

-- how many, the offset of the first byte of the first, the bytes of one, and the first byte after the last
abbrev pub record_line : Records → List ℕ
record_line r = count_words r.count r.begin ++ size_words r.size r.end

abbrev pub records_line : Option Records → List ℕ
records_line None = []
records_line (Some r) = record_line r

-- ---- the rest of the file

-- how many bytes there are after this place, or are missing up to it
unfoldable pub rest_line : (file past : ℕ) → List ℕ
rest_line file past =
    if ltb file past
    then codes "missing " ++ (decimal (past - file) ++ codes "\n")
    else codes "after " ++ (decimal (file - past) ++ codes "\n")

-- ---- all lines

-- where everything lies in a file of this length with this header
abbrev pub layout_text : Header → (file : ℕ) → List ℕ
layout_text h file =
    head_lines file h.length ++ (variable_lines h.schema h.length (by_begin (extents_in h))
    ++ (records_line (records_in h file) ++ rest_line file (end_of_all h.length (extents_in h) (records_in h file))))
