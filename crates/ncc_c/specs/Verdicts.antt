-- What a verdict tells a C program, and the notes after it.
use Rattle.std.specs.Prelude.{◌≡◌, ℕ, List, map, take, length, Result, Ok, Err}
use Rattle.ncc_values.specs.Version.{byte_of}
use Rattle.ncc_layout.specs.Placed.{records_of_file, record_size_of_file}
use Rattle.ncc_check.specs.declared.note.Note.{Note}
use Rattle.ncc_front.specs.declared.judging.FrontRefusal.{FrontRefusal}
use Rattle.ncc_front.specs.declared.judging.Judgement.{Judgement}
use Rattle.ncc_front.specs.Judging.{JudgesFront}
use Rattle.ncc_c.specs.declared.outcome.Outcome.{Outcome}
use Rattle.ncc_c.specs.declared.verdict.Verdict.{Verdict}
use Rattle.ncc_c.specs.declared.notes.NoteRow.{NoteRow}
use Rattle.ncc_c.specs.declared.notes.Noted.{Noted}
use Rattle.ncc_c.specs.Outcomes.{of_note, of_refusal, passes}

-- ---- a verdict

abbrev pub empty : Outcome → Verdict
empty o = record {
  outcome = o;
  version = 0;
  header_length = 0;
  records = 0;
  record_size = 0;
  dims = 0;
  global_attrs = 0;
  vars = 0;
  notes = 0;
}

-- the numbers of an answer
abbrev pub verdict_of : Result Judgement FrontRefusal → Verdict
verdict_of (Ok j) = record {
  outcome = passes;
  version = byte_of j.header.schema.version;
  header_length = j.header.length;
  records = records_of_file j.placed;
  record_size = record_size_of_file j.placed;
  dims = length j.header.schema.dims;
  global_attrs = length j.header.schema.gatts;
  vars = length j.header.schema.vars;
  notes = length j.notes.items;
}
verdict_of (Err e) = empty (of_refusal e)

-- the verdict is that of a right answer about each file of this length that begins with the front
pub record Tells (front : List ℕ) (file limit : ℕ) (v : Verdict) : Type 0 where
  pub answer : Result Judgement FrontRefusal
  pub judges : JudgesFront front file limit answer
  pub told : v ≡ verdict_of answer

-- ---- notes

abbrev pub note_row : Note → NoteRow
note_row n = record { kind = of_note n.kind; reserved = 0; at = n.offset }

abbrev pub no_notes : Outcome → Noted
no_notes o = record { outcome = o; notes = 0 }

-- as many notes as there is room for, and how many there are
abbrev pub IsNoted : Result Judgement FrontRefusal → (out : List NoteRow) → Noted → Type 0
IsNoted (Ok j) out x =
    (x ≡ record { outcome = passes; notes = length j.notes.items })
    × (take (length j.notes.items) out ≡ take (length out) (map note_row j.notes.items))
IsNoted (Err e) out x = x ≡ no_notes (of_refusal e)

pub record TellsNotes (front : List ℕ) (file limit : ℕ) (out : List NoteRow) (x : Noted) : Type 0 where
  pub answer : Result Judgement FrontRefusal
  pub judges : JudgesFront front file limit answer
  pub told : IsNoted answer out x
