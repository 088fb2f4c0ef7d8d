-- What `ncc check --json` says of a file: the members of its object, token by token.
use Rattle.std.specs.Prelude.{ℕ, ◌==◌, List, [], ◌∷◌, ◌++◌, Option, Some, None, codes, get_or, if◌then◌else◌, length, position}
use Rattle.std.specs.List.{flat_map}
use Rattle.json.specs.Token.{Token, begin_object, end_array, end_object}
use Rattle.ncc_values.specs.Version.{byte_of}
use Rattle.ncc_schema.specs.declared.names.NameOf.TheVariants as of
use Rattle.ncc_schema.specs.declared.schema.Count.{Count}
use Rattle.ncc_schema.specs.declared.schema.Count.TheVariants.{Known, Streaming}
use Rattle.ncc_schema.specs.declared.schema.Header.{Header}
use Rattle.ncc_schema.specs.declared.schema.Schema.{Schema}
use Rattle.ncc_schema.specs.Names.{name_of}
use Rattle.ncc_schema.specs.Schema.{lengths}
use Rattle.ncc_header.specs.declared.fault.Fault.{Fault}
use Rattle.ncc_header.specs.declared.fault.FaultKind.{FaultKind}
use Rattle.ncc_header.specs.declared.fault.FaultKind.TheVariants as faults
use Rattle.ncc_layout.specs.declared.fault.LayoutFault.{LayoutFault}
use Rattle.ncc_check.specs.declared.note.Note.{Note}
use Rattle.ncc_check.specs.declared.note.NoteKind.{NoteKind}
use Rattle.ncc_check.specs.declared.note.NoteKind.TheVariants as notes
use Rattle.ncc_check.specs.declared.report.Report.{Report}
use Rattle.ncc_check.specs.Notes.{vsize_words, vsizes}
use Rattle.ncc_json.specs.Members.{bytes_member, fault_members, list_start, number_member, text_member, wide_member}
use Rattle.ncc_lines.specs.Texts.{begin_of, fault_word}
use Rattle.ncc_lines.specs.Verdicts.{layout_word, note_word}
use Rattle.ncc_parts.specs.declared.broken.Broken.{Broken}
use Rattle.ncc_parts.specs.declared.broken.Broken.TheVariants.{InHeader, Overlap, RecordWindow, FixedAfterRecords, Truncated}
use Rattle.ncc_header.specs.declared.part.Part.{Part}
use Rattle.ncc_header.specs.declared.part.Part.TheVariants as parts
use Rattle.ncc_header.specs.declared.unfinished.Unfinished.{Unfinished}
use Rattle.ncc_parts.specs.Breaking.{broken_by}
use Rattle.ncc_parts.specs.Parts.{part_at, parts_of}
use Rattle.ncc_explain.specs.declared.site.Site.{Site}
use Rattle.ncc_explain.specs.Likeness.{likeness}
use Rattle.ncc_explain.specs.Rules.{header_rule, layout_rule, note_rule}
use Rattle.ncc_explain.specs.Words.{name_in, owner_in, part_words}

-- ---- a file that passes

-- its version, the number of its records, as found, and of its variables
unfoldable pub ok_members : Report → List Token
ok_members r =
    text_member (codes "verdict") (codes "ok") ++ (number_member (codes "version") (byte_of r.version)
    ++ (number_member (codes "records") r.records ++ number_member (codes "variables") r.variables))

-- the vsize of a variable, and the one that its size gives
unfoldable pub vsize_members : (there due : ℕ) → List Token
vsize_members there due = number_member (codes "vsize") there ++ number_member (codes "due") due

abbrev pub count_members : Count → List Token
count_members (Known n) = number_member (codes "numrecs") n
count_members Streaming = []

-- the numbers of a note in this part
abbrev pub note_number_members : Header → NoteKind → Part → List Token
note_number_members h notes.VsizeField (parts.Place n) =
    vsize_members (get_or (vsizes h.places) n 0) (get_or (vsize_words h.schema) n 0)
note_number_members h notes.UnalignedBegin (parts.Place n) = number_member (codes "begin") (begin_of h.places n)
note_number_members h notes.Order (parts.Place n) = number_member (codes "begin") (begin_of h.places n)
note_number_members h notes.LargeCount parts.NumRecs = count_members h.schema.count
note_number_members h notes.LargeCount (parts.Dim n) = number_member (codes "length") (get_or (lengths h.schema.dims) n 0)
note_number_members h _ _ = []

-- a part of the header in words, with the names that are known there
unfoldable pub in_member : Part → (name owner : Option (List ℕ)) → List Token
in_member part name owner = bytes_member (codes "in") (part_words part name owner)

abbrev pub note_part_members : Header → NoteKind → Option Part → List Token
note_part_members h kind None = []
note_part_members h kind (Some part) =
    in_member part (name_in h.schema part) (owner_in h.schema part) ++ note_number_members h kind part

-- its name, its offset, the part of the header that this is in, its numbers and its rule
unfoldable pub note_object : Header → Note → List Token
note_object h n =
    (begin_object ∷ []) ++ (text_member (codes "note") (note_word n.kind) ++ (number_member (codes "offset") n.offset
    ++ (note_part_members h n.kind (part_at n.offset (parts_of h.schema))
    ++ (text_member (codes "rule") (note_rule n.kind) ++ (end_object ∷ [])))))

unfoldable pub report_members : Header → Report → List Token
report_members h r =
    ok_members r ++ (list_start (codes "notes") ++ (flat_map (note_object h) r.notes ++ (end_array ∷ [])))

-- ---- a file that doesn't

abbrev pub variable_member : Schema → (name : List ℕ) → (number : ℕ) → List Token
variable_member s name n = bytes_member name (name_of s (of.Var n))

-- the numbers by which a layout rule fails
unfoldable pub broken_numbers : Schema → Broken → List Token
broken_numbers s (InHeader begin header) = wide_member (codes "begin") begin ++ wide_member (codes "header_end") header
broken_numbers s (Overlap begin other past) =
    number_member (codes "begin") begin ++ (variable_member s (codes "other") other ++ wide_member (codes "other_end") past)
broken_numbers s (RecordWindow past window) = wide_member (codes "end") past ++ wide_member (codes "record_end") window
broken_numbers s (FixedAfterRecords past records) = wide_member (codes "end") past ++ wide_member (codes "records_begin") records
broken_numbers s (Truncated past file) = wide_member (codes "end") past ++ wide_member (codes "file_length") file

abbrev pub broken_members : Schema → Option Broken → List Token
broken_members s None = []
broken_members s (Some b) = broken_numbers s b

abbrev pub broken_part_members : Header → (file : ℕ) → LayoutFault → Option ℕ → List Token
broken_part_members h file f None = []
broken_part_members h file f (Some n) =
    variable_member h.schema (codes "variable") n ++ broken_members h.schema (broken_by h file f.kind n)

-- the variable whose begin field its offset is, its numbers and its rule
unfoldable pub layout_fault_members : Header → (file : ℕ) → LayoutFault → List Token
layout_fault_members h file f =
    fault_members (layout_word f.kind) f.offset
    ++ (broken_part_members h file f (position (λ p. p.begin_at == f.offset) h.places) ++ text_member (codes "rule") (layout_rule f.kind))

abbrev pub like_members : (words : List ℕ) → List Token
like_members words = if length words == 0 then [] else text_member (codes "looks_like") words

-- what the file looks like that begins with these letters
abbrev pub letter_members : (value : Option ℕ) → List Token
letter_members None = []
letter_members (Some n) = like_members (likeness n)

abbrev pub value_members : (value : Option ℕ) → List Token
value_members None = []
value_members (Some n) = number_member (codes "value") n

-- the numbers of a fault of the header, by its kind
abbrev pub site_members : FaultKind → (limit : ℕ) → Site → List Token
site_members faults.BadMagic limit x = letter_members x.value
site_members faults.HeaderTooLong limit x = wide_member (codes "limit") limit ++ wide_member (codes "file_length") x.file_length
site_members faults.EndsEarly limit x = number_member (codes "file_length") x.file_length
site_members _ limit x = value_members x.value

-- the part of the header that goes on here
abbrev pub place_members : Option Unfinished → List Token
place_members None = []
place_members (Some u) = in_member u.part u.name u.owner

unfoldable pub header_fault_members : (limit : ℕ) → Fault → Site → List Token
header_fault_members limit f x =
    fault_members (fault_word f.kind) f.offset
    ++ (place_members x.place ++ (site_members f.kind limit x ++ text_member (codes "rule") (header_rule f.kind)))
