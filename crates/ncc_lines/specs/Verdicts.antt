-- What `ncc check` prints, line by line.
use Rattle.std.specs.Prelude.{ℕ, List, ◌++◌, codes, decimal}
use Rattle.std.specs.List.{flat_map}
use Rattle.ncc_layout.specs.declared.fault.LayoutFaultKind.{LayoutFaultKind}
use Rattle.ncc_layout.specs.declared.fault.LayoutFaultKind.TheVariants as faults
use Rattle.ncc_check.specs.declared.fault.FileFault.{FileFault}
use Rattle.ncc_check.specs.declared.fault.FileFault.TheVariants as of
use Rattle.ncc_check.specs.declared.note.Note.{Note}
use Rattle.ncc_check.specs.declared.note.NoteKind.{NoteKind}
use Rattle.ncc_check.specs.declared.note.NoteKind.TheVariants as notes
use Rattle.ncc_check.specs.declared.report.Report.{Report}
use Rattle.ncc_lines.specs.Texts.{version_text, at_line, fault_line}

-- ---- a file that passes

-- its version, the number of its records, as found, and of its variables
unfoldable pub ok_line : Report → List ℕ
ok_line r =
    codes "ok " ++ version_text r.version ++ codes " records " ++ decimal r.records ++ codes " variables " ++ decimal r.variables ++ codes "\n"

abbrev pub note_word : NoteKind → List ℕ
note_word notes.VsizeField = codes "VsizeField"
note_word notes.HeaderPadding = codes "HeaderPadding"
note_word notes.TaggedEmpty = codes "TaggedEmpty"
note_word notes.NameRule = codes "NameRule"
note_word notes.DuplicateName = codes "DuplicateName"
note_word notes.UnalignedBegin = codes "UnalignedBegin"
note_word notes.Order = codes "Order"
note_word notes.LargeCount = codes "LargeCount"

abbrev pub note_line : Note → List ℕ
note_line n = at_line (codes "note ") (note_word n.kind) n.offset

abbrev pub report_text : Report → List ℕ
report_text r = ok_line r ++ flat_map note_line r.notes

-- ---- a file that doesn't

abbrev pub layout_word : LayoutFaultKind → List ℕ
layout_word faults.TooLarge = codes "TooLarge"
layout_word faults.InHeader = codes "InHeader"
layout_word faults.Overlap = codes "Overlap"
layout_word faults.RecordWindow = codes "RecordWindow"
layout_word faults.FixedAfterRecords = codes "FixedAfterRecords"
layout_word faults.Truncated = codes "Truncated"

abbrev pub file_fault_line : FileFault → List ℕ
file_fault_line (of.Header f) = fault_line f
file_fault_line (of.Layout f) = at_line (codes "fault ") (layout_word f.kind) f.offset
