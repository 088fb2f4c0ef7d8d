-- What stands behind a fault or a note, each line four spaces in: the part of the header that it is in, the numbers, and
-- the rule.
use Rattle.std.specs.Prelude.{ℕ, ◌==◌, List, [], ◌++◌, Option, Some, None, get_or, position, codes, decimal}
use Rattle.std.specs.List.{flat_map}
use Rattle.ncc_schema.specs.declared.names.NameOf.{NameOf}
use Rattle.ncc_schema.specs.declared.names.NameOf.TheVariants as of
use Rattle.ncc_schema.specs.declared.schema.Count.{Count}
use Rattle.ncc_schema.specs.declared.schema.Count.TheVariants.{Known, Streaming}
use Rattle.ncc_schema.specs.declared.schema.Header.{Header}
use Rattle.ncc_schema.specs.declared.schema.Schema.{Schema}
use Rattle.ncc_schema.specs.Names.{name_of}
use Rattle.ncc_schema.specs.Schema.{lengths}
use Rattle.ncc_header.specs.declared.fault.Fault.{Fault}
use Rattle.ncc_header.specs.declared.fault.FaultKind.{FaultKind}
use Rattle.ncc_header.specs.declared.fault.FaultKind.TheVariants as faults
use Rattle.ncc_layout.specs.declared.fault.LayoutFault.{LayoutFault}
use Rattle.ncc_check.specs.declared.fault.FileFault.TheVariants.{Layout}
use Rattle.ncc_check.specs.declared.note.Note.{Note}
use Rattle.ncc_check.specs.declared.note.NoteKind.{NoteKind}
use Rattle.ncc_check.specs.declared.note.NoteKind.TheVariants as notes
use Rattle.ncc_check.specs.declared.report.Report.{Report}
use Rattle.ncc_check.specs.Notes.{vsize_words, vsizes}
use Rattle.ncc_lines.specs.Texts.{begin_of, fault_line}
use Rattle.ncc_lines.specs.Verdicts.{ok_line, note_line, file_fault_line}
use Rattle.ncc_lines.specs.Words.{name_text}
use Rattle.ncc_parts.specs.declared.broken.Broken.{Broken}
use Rattle.ncc_parts.specs.declared.broken.Broken.TheVariants.{InHeader, Overlap, RecordWindow, FixedAfterRecords, Truncated}
use Rattle.ncc_header.specs.declared.part.Part.{Part}
use Rattle.ncc_header.specs.declared.part.Part.TheVariants as parts
use Rattle.ncc_header.specs.declared.unfinished.Unfinished.{Unfinished}
use Rattle.ncc_parts.specs.Breaking.{broken_by}
use Rattle.ncc_parts.specs.Parts.{part_at, parts_of}
use Rattle.ncc_explain.specs.declared.site.Site.{Site}
use Rattle.ncc_explain.specs.Likeness.{likeness, lines_like}
use Rattle.ncc_explain.specs.Rules.{header_rule, layout_rule, note_rule}

-- ---- names

abbrev pub named : Schema → NameOf → List ℕ
named s x = name_text (name_of s x)

unfoldable pub variable_words : Schema → (number : ℕ) → List ℕ
variable_words s n = codes "variable " ++ named s (of.Var n)

-- ---- the part of the header

-- an item of a list by its number, from 0 on
abbrev pub numbered : (kind : List ℕ) → (number : ℕ) → List ℕ
numbered kind n = kind ++ (codes "number " ++ decimal n)

-- an item by its name; where that isn't known, "the name of" the item with that number
abbrev pub item_words : (kind : List ℕ) → (number : ℕ) → (name : Option (List ℕ)) → List ℕ
item_words kind n (Some name) = kind ++ name_text name
item_words kind n None = codes "the name of " ++ numbered kind n

-- a part, with the name of its item, and of the variable that has the attribute, as far as they are known
abbrev pub part_words : Part → (name owner : Option (List ℕ)) → List ℕ
part_words parts.Magic name owner = codes "the letters and the version"
part_words parts.NumRecs name owner = codes "the number of records"
part_words parts.DimList name owner = codes "the list of dimensions"
part_words (parts.Dim n) name owner = item_words (codes "dimension ") n name
part_words parts.GlobalList name owner = codes "the list of global attributes"
part_words (parts.Global n) name owner = item_words (codes "global attribute ") n name
part_words parts.VarList name owner = codes "the list of variables"
part_words (parts.Var n) name owner = item_words (codes "variable ") n name
part_words (parts.AttrList n) name owner = codes "the list of attributes of " ++ item_words (codes "variable ") n name
part_words (parts.Attr n k) name owner =
    item_words (codes "attribute ") k name ++ (codes " of " ++ item_words (codes "variable ") n owner)
part_words (parts.Place n) name owner = item_words (codes "variable ") n name

-- the name of the item of a part
abbrev pub name_in : Schema → Part → Option (List ℕ)
name_in s parts.Magic = None
name_in s parts.NumRecs = None
name_in s parts.DimList = None
name_in s (parts.Dim n) = Some (name_of s (of.Dim n))
name_in s parts.GlobalList = None
name_in s (parts.Global n) = Some (name_of s (of.Global n))
name_in s parts.VarList = None
name_in s (parts.Var n) = Some (name_of s (of.Var n))
name_in s (parts.AttrList n) = Some (name_of s (of.Var n))
name_in s (parts.Attr n k) = Some (name_of s (of.Attr n k))
name_in s (parts.Place n) = Some (name_of s (of.Var n))

-- and of the variable that has the attribute
abbrev pub owner_in : Schema → Part → Option (List ℕ)
owner_in s (parts.Attr n k) = Some (name_of s (of.Var n))
owner_in s _ = None

unfoldable pub in_line : Part → (name owner : Option (List ℕ)) → List ℕ
in_line part name owner = codes "    in " ++ (part_words part name owner ++ codes "\n")

-- of a whole header
abbrev pub part_line : Schema → Part → List ℕ
part_line s part = in_line part (name_in s part) (owner_in s part)

-- of one that goes on here
abbrev pub place_lines : Option Unfinished → List ℕ
place_lines None = []
place_lines (Some u) = in_line u.part u.name u.owner

-- ---- the numbers by which a layout rule fails

unfoldable pub broken_line : Schema → Broken → List ℕ
broken_line s (InHeader begin header) =
    codes "    it begins at " ++ (decimal begin ++ (codes ", and the header ends at " ++ (decimal header ++ codes "\n")))
broken_line s (Overlap begin other past) =
    codes "    it begins at " ++ (decimal begin ++ (codes ", and " ++ (variable_words s other ++ (codes " ends at " ++ (decimal past ++ codes "\n")))))
broken_line s (RecordWindow past window) =
    codes "    it ends at " ++ (decimal past ++ (codes ", and record 0 ends at " ++ (decimal window ++ codes "\n")))
broken_line s (FixedAfterRecords past records) =
    codes "    it ends at " ++ (decimal past ++ (codes ", and the records begin at " ++ (decimal records ++ codes "\n")))
broken_line s (Truncated past file) =
    codes "    it ends at " ++ (decimal past ++ (codes ", and the file ends at " ++ (decimal file ++ codes "\n")))

abbrev pub broken_lines : Schema → Option Broken → List ℕ
broken_lines s None = []
broken_lines s (Some b) = broken_line s b

-- ---- the numbers of a note

unfoldable pub vsize_line : (there due : ℕ) → List ℕ
vsize_line there due =
    codes "    its vsize is " ++ (decimal there ++ (codes ", and its size gives " ++ (decimal due ++ codes "\n")))

unfoldable pub begin_line : (begin : ℕ) → List ℕ
begin_line begin = codes "    it begins at " ++ (decimal begin ++ codes "\n")

unfoldable pub count_line : Count → List ℕ
count_line (Known n) = codes "    it is " ++ (decimal n ++ codes "\n")
count_line Streaming = []

unfoldable pub length_line : (length : ℕ) → List ℕ
length_line n = codes "    its length is " ++ (decimal n ++ codes "\n")

-- the numbers of a note in this part
abbrev pub note_numbers : Header → NoteKind → Part → List ℕ
note_numbers h notes.VsizeField (parts.Place n) = vsize_line (get_or (vsizes h.places) n 0) (get_or (vsize_words h.schema) n 0)
note_numbers h notes.UnalignedBegin (parts.Place n) = begin_line (begin_of h.places n)
note_numbers h notes.Order (parts.Place n) = begin_line (begin_of h.places n)
note_numbers h notes.LargeCount parts.NumRecs = count_line h.schema.count
note_numbers h notes.LargeCount (parts.Dim n) = length_line (get_or (lengths h.schema.dims) n 0)
note_numbers h _ _ = []

-- ---- the numbers of a fault of the header

unfoldable pub number_line : (number : ℕ) → List ℕ
number_line n = codes "    the number there is " ++ (decimal n ++ codes "\n")

unfoldable pub end_line : (file_length : ℕ) → List ℕ
end_line n = codes "    the file ends at " ++ (decimal n ++ codes "\n")

unfoldable pub limit_line : (limit : ℕ) → List ℕ
limit_line n = codes "    the limit is " ++ (decimal n ++ codes "\n")

-- what the file looks like that begins with these letters
abbrev pub letter_lines : (value : Option ℕ) → List ℕ
letter_lines None = []
letter_lines (Some n) = lines_like (likeness n)

abbrev pub number_lines : (value : Option ℕ) → List ℕ
number_lines None = []
number_lines (Some n) = number_line n

-- by the kind of the fault
abbrev pub site_lines : FaultKind → (limit : ℕ) → Site → List ℕ
site_lines faults.BadMagic limit x = letter_lines x.value
site_lines faults.HeaderTooLong limit x = limit_line limit ++ end_line x.file_length
site_lines faults.EndsEarly limit x = end_line x.file_length
site_lines _ limit x = number_lines x.value

-- ---- rules

unfoldable pub rule_line : List ℕ → List ℕ
rule_line words = codes "    " ++ (words ++ codes "\n")

-- ---- what is told of a fault or a note

abbrev pub note_part_lines : Header → NoteKind → Option Part → List ℕ
note_part_lines h kind None = []
note_part_lines h kind (Some part) = part_line h.schema part ++ note_numbers h kind part

-- a note: its line, the part of the header that its offset is in, its numbers and its rule
abbrev pub told_note : Header → Note → List ℕ
told_note h n =
    note_line n ++ (note_part_lines h n.kind (part_at n.offset (parts_of h.schema)) ++ rule_line (note_rule n.kind))

abbrev pub told_report : Header → Report → List ℕ
told_report h r = ok_line r ++ flat_map (told_note h) r.notes

abbrev pub broken_part_lines : Header → (file : ℕ) → LayoutFault → Option ℕ → List ℕ
broken_part_lines h file f None = []
broken_part_lines h file f (Some n) = part_line h.schema (parts.Place n) ++ broken_lines h.schema (broken_by h file f.kind n)

-- a fault of the layout: its line, the variable whose begin field its offset is, its numbers and its rule
abbrev pub told_layout_fault : Header → (file : ℕ) → LayoutFault → List ℕ
told_layout_fault h file f =
    file_fault_line (Layout f)
    ++ (broken_part_lines h file f (position (λ p. p.begin_at == f.offset) h.places) ++ rule_line (layout_rule f.kind))

-- a fault of the header: its line, the part of the header that goes on there, the numbers and the rule
abbrev pub told_header_fault : (limit : ℕ) → Fault → Site → List ℕ
told_header_fault limit f x =
    fault_line f ++ (place_lines x.place ++ (site_lines f.kind limit x ++ rule_line (header_rule f.kind)))
