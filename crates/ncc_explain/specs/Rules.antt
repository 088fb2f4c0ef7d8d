-- The rule of each fault and note in a few words. In brackets stands the section of The NetCDF Classic Format
-- Specification that it rests on, if there is one. Where a rule says more than that section, docs/FORMAT.md and
-- docs/LAYOUT.md say so.
use Rattle.std.specs.Prelude.{ℕ, List, codes}
use Rattle.ncc_header.specs.declared.fault.FaultKind.{FaultKind}
use Rattle.ncc_header.specs.declared.fault.FaultKind.TheVariants as faults
use Rattle.ncc_layout.specs.declared.fault.LayoutFaultKind.{LayoutFaultKind}
use Rattle.ncc_layout.specs.declared.fault.LayoutFaultKind.TheVariants as layouts
use Rattle.ncc_check.specs.declared.note.NoteKind.{NoteKind}
use Rattle.ncc_check.specs.declared.note.NoteKind.TheVariants as notes

abbrev pub header_rule : FaultKind → List ℕ
header_rule faults.BadMagic = codes "the file doesn't begin with CDF; a netCDF-4 file is an HDF5 file, and begins otherwise [The Format in Detail]"
header_rule faults.BadVersion = codes "the version byte is none of 1, 2 and 5 [The Format in Detail]"
header_rule faults.NegativeCount = codes "a number of items, or in CDF-5 a dimension's length, has its top bit set [The Format in Detail]"
header_rule faults.BadTag = codes "the tag of a list is neither zero nor its own, or zero with items after it [The Format in Detail]"
header_rule faults.BadType = codes "the version has no type of this code [The Format in Detail]"
header_rule faults.TwoRecordDims = codes "a second dimension has length 0 [The Format in Detail]"
header_rule faults.BadDimId = codes "a variable names a dimension that isn't there [The Format in Detail]"
header_rule faults.RecordDimNotFirst = codes "a variable has the record dimension after its first place"
header_rule faults.NegativeOffset = codes "a begin has its top bit set [The Format in Detail]"
header_rule faults.HeaderTooLong = codes "the header passes the limit; --max-header gives another"
header_rule faults.EndsEarly = codes "the file ends inside the header [The Format in Detail]"

abbrev pub layout_rule : LayoutFaultKind → List ℕ
layout_rule layouts.TooLarge = codes "a variable, or one record up to it, has more than 9223372036854775804 bytes with its padding"
layout_rule layouts.InHeader = codes "a variable begins inside the header [The Format in Detail]"
layout_rule layouts.Overlap = codes "two variables share bytes [The Format in Detail]"
layout_rule layouts.RecordWindow = codes "a record variable's part of record 0 ends after record 0 [Notes on Computing File Offsets]"
layout_rule layouts.FixedAfterRecords = codes "a fixed variable ends after the records begin [The Format in Detail]"
layout_rule layouts.Truncated = codes "the file ends before a variable's last element does [Notes on Computing File Offsets]"

abbrev pub note_rule : NoteKind → List ℕ
note_rule notes.VsizeField = codes "a vsize isn't the one that the variable's size gives [Note on vsize]"
note_rule notes.HeaderPadding = codes "padding in the header has a byte that isn't zero [The Format in Detail]"
note_rule notes.TaggedEmpty = codes "a list without items has its tag, not zero [The Format in Detail]"
note_rule notes.NameRule = codes "a name isn't UTF-8 in form NFC, or has a character that its place doesn't allow [Note on names]"
note_rule notes.DuplicateName = codes "a name stands twice in a list"
note_rule notes.UnalignedBegin = codes "a begin is no multiple of 4 [The Format in Detail]"
note_rule notes.Order = codes "a variable begins before an earlier one of its kind [The Format in Detail]"
note_rule notes.LargeCount = codes "the number of records, or in CDF-1 and CDF-2 a dimension's length, has its top bit set [The Format in Detail]"
