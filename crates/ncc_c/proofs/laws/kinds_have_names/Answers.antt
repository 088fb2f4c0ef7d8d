use Rattle.std.proofs.Common.{refl, ◌≡◌, arith}
use Rattle.ncc_header.specs.declared.fault.FaultKind.{FaultKind}
use Rattle.ncc_header.specs.declared.fault.FaultKind.TheVariants as kinds
use Rattle.ncc_layout.specs.declared.fault.LayoutFaultKind.{LayoutFaultKind}
use Rattle.ncc_layout.specs.declared.fault.LayoutFaultKind.TheVariants as layouts
use Rattle.ncc_check.specs.declared.note.NoteKind.{NoteKind}
use Rattle.ncc_check.specs.declared.note.NoteKind.TheVariants as notes
use Rattle.ncc_check.specs.declared.append_error.AppendError.{AppendError}
use Rattle.ncc_check.specs.declared.append_error.AppendError.TheVariants as appends
use Rattle.ncc_lines.specs.Refusals.{append_words}
use Rattle.ncc_lines.specs.Texts.{fault_word}
use Rattle.ncc_lines.specs.Verdicts.{layout_word, note_word}
use Rattle.ncc_c.specs.Outcomes.{of_append, of_header, of_layout, of_note}
use Rattle.ncc_c.specs.Texts.{kind_text}
use Rattle.ncc_c.proofs.laws.kinds_have_names.Goals as goal

headers : (k : FaultKind) → kind_text (of_header k) ≡ fault_word k
headers kinds.BadMagic = refl
headers kinds.BadVersion = refl
headers kinds.NegativeCount = refl
headers kinds.BadTag = refl
headers kinds.BadType = refl
headers kinds.TwoRecordDims = refl
headers kinds.BadDimId = refl
headers kinds.RecordDimNotFirst = refl
headers kinds.NegativeOffset = refl
headers kinds.HeaderTooLong = refl
headers kinds.EndsEarly = refl

layouts_too : (k : LayoutFaultKind) → kind_text (of_layout k) ≡ layout_word k
layouts_too layouts.TooLarge = refl
layouts_too layouts.InHeader = refl
layouts_too layouts.Overlap = refl
layouts_too layouts.RecordWindow = refl
layouts_too layouts.FixedAfterRecords = refl
layouts_too layouts.Truncated = refl

notes_too : (k : NoteKind) → kind_text (of_note k) ≡ note_word k
notes_too notes.VsizeField = refl
notes_too notes.HeaderPadding = refl
notes_too notes.TaggedEmpty = refl
notes_too notes.NameRule = refl
notes_too notes.DuplicateName = refl
notes_too notes.UnalignedBegin = refl
notes_too notes.Order = refl
notes_too notes.LargeCount = refl

appends_too : (e : AppendError) → (of_append e).state ≡ 5 → kind_text (of_append e).kind ≡ append_words e
appends_too appends.NoRecordVariable is = refl
appends_too appends.NotPacked is = refl
appends_too appends.Streaming is = refl
appends_too appends.CountFull is = refl
appends_too appends.Reopen is = absurd (omega (arith, is))
appends_too (appends.WrongValues k) is = absurd (omega (arith, is))
appends_too appends.Device is = absurd (omega (arith, is))
appends_too appends.Memory is = absurd (omega (arith, is))

pub returns : goal.returns
returns c = record { headers = headers; layouts = layouts_too; notes = notes_too; appends = appends_too }
