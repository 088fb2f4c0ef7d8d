-- The names of kinds by their numbers.
use Rattle.std.specs.Prelude.{◌≡◌, ℕ, ◌==◌, nat_lt, if◌then◌else◌, List, [], codes}
use Rattle.ncc_header.specs.declared.fault.FaultKind.{FaultKind}
use Rattle.ncc_header.specs.declared.fault.FaultKind.TheVariants as kinds
use Rattle.ncc_layout.specs.declared.fault.LayoutFaultKind.{LayoutFaultKind}
use Rattle.ncc_layout.specs.declared.fault.LayoutFaultKind.TheVariants as layouts
use Rattle.ncc_check.specs.declared.note.NoteKind.{NoteKind}
use Rattle.ncc_check.specs.declared.note.NoteKind.TheVariants as notes
use Rattle.ncc_check.specs.declared.append_error.AppendError.{AppendError}
use Rattle.ncc_lines.specs.Refusals.{append_words}
use Rattle.ncc_lines.specs.Texts.{fault_word}
use Rattle.ncc_lines.specs.Verdicts.{layout_word, note_word}
use Rattle.ncc_c.specs.Outcomes.{of_append, of_header, of_layout, of_note}

abbrev pub header_text : (n : ℕ) → List ℕ
header_text n =
    if n == 1 then fault_word kinds.BadMagic else
    if n == 2 then fault_word kinds.BadVersion else
    if n == 3 then fault_word kinds.NegativeCount else
    if n == 4 then fault_word kinds.BadTag else
    if n == 5 then fault_word kinds.BadType else
    if n == 6 then fault_word kinds.TwoRecordDims else
    if n == 7 then fault_word kinds.BadDimId else
    if n == 8 then fault_word kinds.RecordDimNotFirst else
    if n == 9 then fault_word kinds.NegativeOffset else
    if n == 10 then fault_word kinds.HeaderTooLong else
    if n == 11 then fault_word kinds.EndsEarly else
    []

abbrev pub other_text : (n : ℕ) → List ℕ
other_text n =
    if n == 21 then layout_word layouts.TooLarge else
    if n == 22 then layout_word layouts.InHeader else
    if n == 23 then layout_word layouts.Overlap else
    if n == 24 then layout_word layouts.RecordWindow else
    if n == 25 then layout_word layouts.FixedAfterRecords else
    if n == 26 then layout_word layouts.Truncated else
    if n == 41 then note_word notes.VsizeField else
    if n == 42 then note_word notes.HeaderPadding else
    if n == 43 then note_word notes.TaggedEmpty else
    if n == 44 then note_word notes.NameRule else
    if n == 45 then note_word notes.DuplicateName else
    if n == 46 then note_word notes.UnalignedBegin else
    if n == 47 then note_word notes.Order else
    if n == 48 then note_word notes.LargeCount else
    []

-- of refusals
abbrev pub refusal_text : (n : ℕ) → List ℕ
refusal_text n =
    if n == 61 then codes "NoVariable" else
    if n == 62 then codes "RankMismatch" else
    if n == 63 then codes "ZeroStride" else
    if n == 64 then codes "Outside" else
    if n == 71 then codes "NoRecordVariable" else
    if n == 72 then codes "NotPacked" else
    if n == 73 then codes "Streaming" else
    if n == 74 then codes "CountFull" else
    if n == 81 then codes "BadName" else
    if n == 82 then codes "TypeForVersion" else
    if n == 83 then codes "CountForVersion" else
    if n == 84 then codes "OffsetForVersion" else
    if n == 85 then codes "SizeForVersion" else
    []

abbrev pub kind_text : (n : ℕ) → List ℕ
kind_text n =
    if nat_lt n 21 then header_text n else
    if nat_lt n 61 then other_text n else
    refusal_text n

-- the number of each fault, note and refused record has its name
pub record NamesAllKinds : Type 0 where
  pub headers : (k : FaultKind) → kind_text (of_header k) ≡ fault_word k
  pub layouts : (k : LayoutFaultKind) → kind_text (of_layout k) ≡ layout_word k
  pub notes : (k : NoteKind) → kind_text (of_note k) ≡ note_word k
  pub appends : (e : AppendError) → (of_append e).state ≡ 5 → kind_text (of_append e).kind ≡ append_words e
