-- What `ncc layout --json` says of a file: the members of its object, token by token. All places are in bytes from the
-- start of the file.
use Rattle.std.specs.Prelude.{ℕ, ◌-◌, max, ltb, Bool, true, false, List, [], ◌∷◌, ◌++◌, Option, Some, None, if◌then◌else◌, codes}
use Rattle.json.specs.Token.{Token, begin_object, end_array, end_object}
use Rattle.ncc_schema.specs.declared.names.NameOf.TheVariants as of
use Rattle.ncc_schema.specs.declared.schema.Header.{Header}
use Rattle.ncc_schema.specs.declared.schema.Schema.{Schema}
use Rattle.ncc_schema.specs.Names.{name_of}
use Rattle.ncc_layout.specs.declared.extent.Extent.{Extent}
use Rattle.ncc_layout.specs.Extents.{end}
use Rattle.ncc_check.specs.Notes.{extents_in}
use Rattle.ncc_check.specs.declared.fault.FileFault.{FileFault}
use Rattle.ncc_check.specs.declared.fault.FileFault.TheVariants as faults
use Rattle.ncc_json.specs.Members.{bytes_member, fault_members, list_start, number_member, object_start, text_member, wide_member}
use Rattle.ncc_lines.specs.Texts.{fault_word}
use Rattle.ncc_lines.specs.Verdicts.{layout_word}
use Rattle.ncc_places.specs.declared.ends.Records.{Records}
use Rattle.ncc_places.specs.Ends.{end_of_all, records_in}
use Rattle.ncc_places.specs.Order.{by_begin}

-- the length of the file, and the bytes of the header
unfoldable pub head_members : (file header : ℕ) → List Token
head_members file header = wide_member (codes "file_length") file ++ wide_member (codes "header_length") header

-- ---- variables

abbrev pub kind_word : (is_record : Bool) → List ℕ
kind_word true = codes "record"
kind_word false = codes "fixed"

-- its kind, its begin, and the offset of the first byte after its own ones; of a record variable those in the first record
unfoldable pub extent_members : Extent → List Token
extent_members e =
    text_member (codes "kind") (kind_word e.is_record) ++ (number_member (codes "begin") e.begin ++ wide_member (codes "end") (end e))

-- how many bytes there are from where all before it ends to its begin, or from its begin to where all before it ends
abbrev pub between_members : (past begin : ℕ) → List Token
between_members past begin =
    if ltb begin past then wide_member (codes "overlap") (past - begin) else wide_member (codes "gap") (begin - past)

-- a variable, where all before it ends here
unfoldable pub variable_object : Schema → (past : ℕ) → Extent → List Token
variable_object s past e =
    (begin_object ∷ []) ++ (number_member (codes "number") e.variable ++ (bytes_member (codes "name") (name_of s (of.Var e.variable))
    ++ (extent_members e ++ (between_members past e.begin ++ (end_object ∷ [])))))

-- variables, each of which has those before it and what ends here before it
abbrev pub variable_objects : Schema → (past : ℕ) → List Extent → List Token
variable_objects s past [] = []
variable_objects s past (e ∷ es) = variable_object s past e ++ variable_objects s (max past (end e)) es

unfoldable pub variables_member : Schema → (past : ℕ) → List Extent → List Token
variables_member s past es =
    list_start (codes "variables") ++ (variable_objects s past es ++ (end_array ∷ []))

-- ---- records

-- how many, the begin of the first, the bytes of one, and the first byte after the last
unfoldable pub record_numbers : Records → List Token
record_numbers r =
    number_member (codes "count") r.count ++ (number_member (codes "begin") r.begin
    ++ (number_member (codes "size") r.size ++ wide_member (codes "end") r.end))

unfoldable pub record_member : Records → List Token
record_member r = object_start (codes "records") ++ (record_numbers r ++ (end_object ∷ []))

abbrev pub records_member : Option Records → List Token
records_member None = []
records_member (Some r) = record_member r

-- ---- the rest of the file

-- how many bytes there are after this place, or are missing up to it
abbrev pub rest_member : (file past : ℕ) → List Token
rest_member file past =
    if ltb file past then wide_member (codes "missing") (past - file) else wide_member (codes "after") (file - past)

-- ---- all members

-- where everything lies in a file of this length with this header
abbrev pub layout_members : Header → (file : ℕ) → List Token
layout_members h file =
    head_members file h.length ++ (variables_member h.schema h.length (by_begin (extents_in h))
    ++ (records_member (records_in h file) ++ rest_member file (end_of_all h.length (extents_in h) (records_in h file))))

-- the fault of a file in which nothing has a place
abbrev pub file_fault_members : FileFault → List Token
file_fault_members (faults.Header f) = fault_members (fault_word f.kind) f.offset
file_fault_members (faults.Layout f) = fault_members (layout_word f.kind) f.offset
