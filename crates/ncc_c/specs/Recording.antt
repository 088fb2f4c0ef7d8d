-- What is told of one more record.
use Rattle.std.specs.Prelude.{◌≡◌, ◌⊎◌, ◌+◌, ◌<◌, ℕ, false, List, length, take, Result, Ok, Err}
use Rattle.ncc_values.specs.Version.{count_width_of}
use Rattle.ncc_values.specs.declared.version.Version.{Version}
use Rattle.ncc_schema.specs.declared.schema.Schema.{Schema}
use Rattle.ncc_layout.specs.declared.placed_file.Placed.{Placed}
use Rattle.ncc_layout.specs.Placed.{records_of_file}
use Rattle.ncc_check.specs.declared.append_error.AppendError.{AppendError}
use Rattle.ncc_check.specs.Appending.{IsAppendable, TakesRecord, count_field, length_with_record, next_record_at}
use Rattle.ncc_front.specs.declared.judging.Found.{Found}
use Rattle.ncc_front.specs.declared.judging.FrontRefusal.{FrontRefusal}
use Rattle.ncc_c.specs.declared.outcome.Outcome.{Outcome}
use Rattle.ncc_c.specs.declared.recording.Recorded.{Recorded}
use Rattle.ncc_c.specs.Outcomes.{no_room, of_append, of_refusal, passes}
use Rattle.ncc_c.specs.Rows.{Examines}

abbrev pub no_record : Outcome → Recorded
no_record o = record { outcome = o; count = 0; place = 0; length = 0; count_at = 0; count_width = 0 }

abbrev pub next_of : Version → (count place length : ℕ) → Recorded
next_of v count place length = record {
  outcome = passes;
  count = count;
  place = place;
  length = length;
  count_at = 4;
  count_width = count_width_of v;
}

-- the record can be added: its number's bytes are there, and its place
pub record HasNext (s : Schema) (p : Placed) (out : List ℕ) (x : Recorded) : Type 0 where
  pub takes : TakesRecord s p
  pub told : x ≡ next_of s.version (records_of_file p + 1) (next_record_at p) (length_with_record p)
  pub count_is : take (count_width_of s.version) out ≡ count_field s.version (records_of_file p + 1)

-- there is no room for the number's bytes
pub record LacksRoom (s : Schema) (p : Placed) (out : List ℕ) (x : Recorded) : Type 0 where
  pub takes : TakesRecord s p
  pub told : x ≡ no_record no_room
  pub short : length out < count_width_of s.version

-- the first reason against it
pub record RefusesNext (s : Schema) (p : Placed) (x : Recorded) : Type 0 where
  pub error : AppendError
  pub is : IsAppendable false s p (Err error)
  pub told : x ≡ no_record (of_append error)

-- what is told of a file that passes, or why it doesn't
abbrev pub IsRecorded : Result Found FrontRefusal → (out : List ℕ) → Recorded → Type 0
IsRecorded (Ok f) out x =
    HasNext f.header.schema f.placed out x
    ⊎ (LacksRoom f.header.schema f.placed out x ⊎ RefusesNext f.header.schema f.placed x)
IsRecorded (Err e) out x = x ≡ no_record (of_refusal e)

pub record TellsRecord (front : List ℕ) (file limit : ℕ) (out : List ℕ) (x : Recorded) : Type 0 where
  pub answer : Result Found FrontRefusal
  pub examines : Examines front file limit answer
  pub told : IsRecorded answer out x
