-- States and kinds by number: the one table of them.
use Rattle.std.specs.Prelude.{ℕ}
use Rattle.ncc_header.specs.declared.fault.FaultKind.{FaultKind}
use Rattle.ncc_header.specs.declared.fault.FaultKind.TheVariants as kinds
use Rattle.ncc_layout.specs.declared.fault.LayoutFaultKind.{LayoutFaultKind}
use Rattle.ncc_layout.specs.declared.fault.LayoutFaultKind.TheVariants as layouts
use Rattle.ncc_check.specs.declared.fault.FileFault.{FileFault}
use Rattle.ncc_check.specs.declared.fault.FileFault.TheVariants.{Header, Layout}
use Rattle.ncc_check.specs.declared.note.NoteKind.{NoteKind}
use Rattle.ncc_check.specs.declared.note.NoteKind.TheVariants as notes
use Rattle.ncc_check.specs.declared.append_error.AppendError.{AppendError}
use Rattle.ncc_check.specs.declared.append_error.AppendError.TheVariants as appends
use Rattle.ncc_build.specs.declared.fault.WriteFault.{WriteFault}
use Rattle.ncc_build.specs.declared.fault.WriteFault.TheVariants as writes
use Rattle.ncc_slab.specs.declared.fault.SlabFault.{SlabFault}
use Rattle.ncc_slab.specs.declared.fault.SlabFault.TheVariants as slabs
use Rattle.ncc_front.specs.declared.judging.FrontRefusal.{FrontRefusal}
use Rattle.ncc_front.specs.declared.judging.FrontRefusal.TheVariants as fronts
use Rattle.ncc_ranges.specs.declared.fault.RangeFault.{RangeFault}
use Rattle.ncc_ranges.specs.declared.fault.RangeFault.TheVariants as ranges
use Rattle.ncc_c.specs.declared.outcome.Outcome.{Outcome}

-- ---- kinds

abbrev pub of_header : FaultKind → ℕ
of_header kinds.BadMagic = 1
of_header kinds.BadVersion = 2
of_header kinds.NegativeCount = 3
of_header kinds.BadTag = 4
of_header kinds.BadType = 5
of_header kinds.TwoRecordDims = 6
of_header kinds.BadDimId = 7
of_header kinds.RecordDimNotFirst = 8
of_header kinds.NegativeOffset = 9
of_header kinds.HeaderTooLong = 10
of_header kinds.EndsEarly = 11

abbrev pub of_layout : LayoutFaultKind → ℕ
of_layout layouts.TooLarge = 21
of_layout layouts.InHeader = 22
of_layout layouts.Overlap = 23
of_layout layouts.RecordWindow = 24
of_layout layouts.FixedAfterRecords = 25
of_layout layouts.Truncated = 26

abbrev pub of_fault : FileFault → ℕ
of_fault (Header f) = of_header f.kind
of_fault (Layout f) = of_layout f.kind

abbrev pub offset_of : FileFault → ℕ
offset_of (Header f) = f.offset
offset_of (Layout f) = f.offset

abbrev pub of_note : NoteKind → ℕ
of_note notes.VsizeField = 41
of_note notes.HeaderPadding = 42
of_note notes.TaggedEmpty = 43
of_note notes.NameRule = 44
of_note notes.DuplicateName = 45
of_note notes.UnalignedBegin = 46
of_note notes.Order = 47
of_note notes.LargeCount = 48

-- ---- states

abbrev pub outcome : (state kind at : ℕ) → Outcome
outcome state kind at = record { state = state; kind = kind; at = at }

abbrev pub passes : Outcome
passes = outcome 0 0 0

abbrev pub fault : FileFault → Outcome
fault f = outcome 1 (of_fault f) (offset_of f)

abbrev pub more : (at : ℕ) → Outcome
more at = outcome 2 0 at

abbrev pub memory : Outcome
memory = outcome 3 0 0

abbrev pub misused : Outcome
misused = outcome 4 0 0

abbrev pub refused : (kind at : ℕ) → Outcome
refused kind at = outcome 5 kind at

abbrev pub no_room : Outcome
no_room = outcome 6 0 0

-- ---- of refusals

abbrev pub of_refusal : FrontRefusal → Outcome
of_refusal (fronts.Fault f) = fault f
of_refusal (fronts.More at) = more at
of_refusal fronts.Memory = memory

abbrev pub of_slab_fault : SlabFault → Outcome
of_slab_fault slabs.NoVariable = refused 61 0
of_slab_fault slabs.RankMismatch = refused 62 0
of_slab_fault (slabs.ZeroStride k) = refused 63 k
of_slab_fault (slabs.Outside k) = refused 64 k
of_slab_fault slabs.Device = memory
of_slab_fault slabs.Memory = memory

abbrev pub of_range : RangeFault → Outcome
of_range (ranges.Refused f) = of_slab_fault f
of_range ranges.NotInFile = misused

-- of a record
abbrev pub of_append : AppendError → Outcome
of_append appends.NoRecordVariable = refused 71 0
of_append appends.NotPacked = refused 72 0
of_append appends.Streaming = refused 73 0
of_append appends.CountFull = refused 74 0
of_append appends.Memory = memory
of_append _ = misused

-- of a schema that is to be written; a fault of a header, or a note, that has the same name has its number
abbrev pub of_write_fault : WriteFault → Outcome
of_write_fault writes.TwoRecordDims = refused 6 0
of_write_fault writes.BadDimId = refused 7 0
of_write_fault writes.RecordDimNotFirst = refused 8 0
of_write_fault writes.DuplicateName = refused 45 0
of_write_fault writes.BadName = refused 81 0
of_write_fault writes.TypeForVersion = refused 82 0
of_write_fault writes.CountForVersion = refused 83 0
of_write_fault writes.OffsetForVersion = refused 84 0
of_write_fault writes.SizeForVersion = refused 85 0
of_write_fault writes.Memory = memory
of_write_fault _ = misused
