-- What `ncc list` prints, line by line.
use Rattle.std.specs.Prelude.{ℕ, ◌+◌, List, [], ◌∷◌, ◌++◌, length, map, get_or, Option, Some, None, ◌==◌, if◌then◌else◌, codes, decimal}
use Rattle.std.specs.List.{flat_map}
use Rattle.ncc_values.specs.Values.{type_of, count_of}
use Rattle.ncc_values.specs.XType.{word_of}
use Rattle.ncc_values.specs.declared.values.Values.{Values}
use Rattle.ncc_values.specs.declared.version.Version.{Version}
use Rattle.ncc_values.specs.declared.version.Version.TheVariants.{V1, V2, V5}
use Rattle.ncc_header.specs.declared.fault.Fault.{Fault}
use Rattle.ncc_header.specs.declared.fault.FaultKind.{FaultKind}
use Rattle.ncc_header.specs.declared.fault.FaultKind.TheVariants as kinds
use Rattle.ncc_schema.specs.declared.schema.Attr.{Attr}
use Rattle.ncc_schema.specs.declared.schema.Count.{Count}
use Rattle.ncc_schema.specs.declared.schema.Count.TheVariants.{Known, Streaming}
use Rattle.ncc_schema.specs.declared.schema.Dim.{Dim}
use Rattle.ncc_schema.specs.declared.schema.Header.{Header}
use Rattle.ncc_schema.specs.declared.schema.Schema.{Schema}
use Rattle.ncc_schema.specs.declared.schema.Var.{Var}
use Rattle.ncc_schema.specs.declared.schema.VarPlace.{VarPlace}
use Rattle.ncc_schema.specs.Schema.{is_record_var}
use Rattle.ncc_lines.specs.Words.{name_text, values_text}
use Rattle.ncc_lines.specs.declared.style.FloatStyle.{FloatStyle}

-- ---- the format and the number of records

abbrev pub version_text : Version → List ℕ
version_text V1 = codes "CDF-1"
version_text V2 = codes "CDF-2"
version_text V5 = codes "CDF-5"

abbrev pub format_line : Version → List ℕ
format_line v = codes "format " ++ version_text v ++ codes "\n"

abbrev pub records_line : Count → List ℕ
records_line (Known n) = codes "records " ++ decimal n ++ codes "\n"
records_line Streaming = codes "records streaming\n"

abbrev pub head_lines : Schema → List ℕ
head_lines s = format_line s.version ++ records_line s.count

-- ---- dimensions

abbrev pub length_text : ℕ → List ℕ
length_text n = if n == 0 then codes "unlimited" else decimal n

unfoldable pub dim_start : (number : ℕ) → List ℕ
dim_start number = codes "dimension " ++ decimal number ++ codes " "

unfoldable pub dim_end : (length : ℕ) → List ℕ
dim_end length = codes " " ++ length_text length ++ codes "\n"

abbrev pub dim_line : (number : ℕ) → Dim → List ℕ
dim_line number d = dim_start number ++ (name_text d.name ++ dim_end d.length)

-- the lines of dimensions that are numbered from here on
abbrev pub dim_lines : (number : ℕ) → List Dim → List ℕ
dim_lines number [] = []
dim_lines number (d ∷ dims) = dim_line number d ++ dim_lines (number + 1) dims

-- ---- attributes

-- whose it is: the number of a variable, or none for the whole file
abbrev pub owner_text : (owner : Option ℕ) → List ℕ
owner_text (Some number) = decimal number
owner_text None = codes "global"

unfoldable pub attr_start : (owner : Option ℕ) → List ℕ
attr_start owner = codes "attribute " ++ owner_text owner ++ codes " "

-- the type and the number of values
unfoldable pub attr_type : Values → List ℕ
attr_type values = codes " " ++ word_of (type_of values) ++ codes " " ++ decimal (count_of values)

abbrev pub attr_head : (owner : Option ℕ) → Attr → List ℕ
attr_head owner a = attr_start owner ++ (name_text a.name ++ attr_type a.values)

abbrev pub attr_line : FloatStyle → (owner : Option ℕ) → Attr → List ℕ
attr_line style owner a = attr_head owner a ++ (values_text style a.values ++ codes "\n")

abbrev pub attr_lines : FloatStyle → (owner : Option ℕ) → List Attr → List ℕ
attr_lines style owner attrs = flat_map (attr_line style owner) attrs

-- ---- variables

-- A header's dimension numbers are below the number of its dimensions, and it has a place for each
-- variable: where it hasn't, a name is empty, a variable is fixed and begins at 0.

abbrev pub name_of : List Dim → (number : ℕ) → List ℕ
name_of dims number = get_or (map (λ d. d.name) dims) number []

abbrev pub begin_of : List VarPlace → (number : ℕ) → ℕ
begin_of places number = get_or (map (λ p. p.begin) places) number 0

abbrev pub kind_of : List Dim → Var → List ℕ
kind_of dims x = if is_record_var dims x then codes "record" else codes "fixed"

unfoldable pub var_start : (number : ℕ) → List ℕ
var_start number = codes "variable " ++ decimal number ++ codes " "

-- the type, the kind, the place and the number of dimensions
unfoldable pub var_type : List Dim → (begin : ℕ) → Var → List ℕ
var_type dims begin x =
    codes " " ++ word_of x.xtype ++ codes " " ++ kind_of dims x ++ codes " begin " ++ decimal begin ++ codes " dims " ++ decimal (length x.dims)

abbrev pub var_head : List Dim → (number begin : ℕ) → Var → List ℕ
var_head dims number begin x = var_start number ++ (name_text x.name ++ var_type dims begin x)

-- the name of a dimension, after a space
abbrev pub dim_word : List Dim → (number : ℕ) → List ℕ
dim_word dims number = codes " " ++ name_text (name_of dims number)

abbrev pub var_line : List Dim → (number begin : ℕ) → Var → List ℕ
var_line dims number begin x = var_head dims number begin x ++ (flat_map (dim_word dims) x.dims ++ codes "\n")

-- the line of a variable and those of its attributes
abbrev pub var_text : FloatStyle → List Dim → (number begin : ℕ) → Var → List ℕ
var_text style dims number begin x = var_line dims number begin x ++ attr_lines style (Some number) x.attrs

-- the texts of variables that are numbered from here on
abbrev pub var_texts : FloatStyle → List Dim → List VarPlace → (number : ℕ) → List Var → List ℕ
var_texts style dims places number [] = []
var_texts style dims places number (x ∷ vars) =
    var_text style dims number (begin_of places number) x ++ var_texts style dims places (number + 1) vars

-- ---- all lines of a header

abbrev pub schema_lines : FloatStyle → Schema → List ℕ
schema_lines style s = head_lines s ++ (dim_lines 0 s.dims ++ attr_lines style None s.gatts)

abbrev pub list_text : FloatStyle → Header → List ℕ
list_text style h = schema_lines style h.schema ++ var_texts style h.schema.dims h.places 0 h.schema.vars

-- ---- faults

abbrev pub fault_word : FaultKind → List ℕ
fault_word kinds.BadMagic = codes "BadMagic"
fault_word kinds.BadVersion = codes "BadVersion"
fault_word kinds.NegativeCount = codes "NegativeCount"
fault_word kinds.BadTag = codes "BadTag"
fault_word kinds.BadType = codes "BadType"
fault_word kinds.TwoRecordDims = codes "TwoRecordDims"
fault_word kinds.BadDimId = codes "BadDimId"
fault_word kinds.RecordDimNotFirst = codes "RecordDimNotFirst"
fault_word kinds.NegativeOffset = codes "NegativeOffset"
fault_word kinds.HeaderTooLong = codes "HeaderTooLong"
fault_word kinds.EndsEarly = codes "EndsEarly"

-- a word, and the offset of the field that shows what it names
unfoldable pub at_line : (head word : List ℕ) (offset : ℕ) → List ℕ
at_line head word offset = head ++ word ++ codes " at " ++ decimal offset ++ codes "\n"

-- the line of a fault
abbrev pub fault_line : Fault → List ℕ
fault_line f = at_line (codes "fault ") (fault_word f.kind) f.offset
