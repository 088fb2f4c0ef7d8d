-- What a verdict on a file says, of which the front is there.
use Rattle.std.specs.Prelude.{◌≡◌, ℕ, List, Result, Ok, Err}
use Rattle.ncc_schema.specs.declared.schema.Header.{Header}
use Rattle.ncc_schema.specs.Schema.{places_of}
use Rattle.ncc_header.specs.Answers.{Begins}
use Rattle.ncc_layout.specs.declared.placed_file.Placed.{Placed}
use Rattle.ncc_layout.specs.Rules.{IsPlaced}
use Rattle.ncc_layout.specs.Placed.{Holds, record_size_of_file, records_of_file, vars_of}
use Rattle.ncc_check.specs.declared.fault.FileFault.{FileFault}
use Rattle.ncc_check.specs.declared.fault.FileFault.TheVariants.{Header as OfHeader}
use Rattle.ncc_check.specs.declared.fault.Refusal.{Refusal}
use Rattle.ncc_check.specs.declared.fault.Refusal.TheVariants as checks
use Rattle.ncc_check.specs.Passes.{PassesWith}
use Rattle.ncc_check.specs.Faults.{Fails}
use Rattle.ncc_check.specs.Notes.{AreNotes}
use Rattle.ncc_front.specs.declared.reading.FrontError.{FrontError}
use Rattle.ncc_front.specs.declared.reading.FrontError.TheVariants as fronts
use Rattle.ncc_front.specs.declared.judging.FrontRefusal.{FrontRefusal}
use Rattle.ncc_front.specs.declared.judging.FrontRefusal.TheVariants.{Fault, More, Memory}
use Rattle.ncc_front.specs.declared.judging.Judgement.{Judgement}
use Rattle.ncc_front.specs.Fronts.{IsFile, NeedsMore}

-- ---- refusals

abbrev pub refusal_of_front : FrontError → FrontRefusal
refusal_of_front (fronts.Fault f) = Fault (OfHeader f)
refusal_of_front (fronts.More at) = More at
refusal_of_front fronts.Memory = Memory

abbrev pub refusal_of_check : Refusal → FrontRefusal
refusal_of_check (checks.Fault f) = Fault f
refusal_of_check checks.Device = Memory
refusal_of_check checks.Memory = Memory

-- each file of this length that begins with the front has this first fault, and the front needn't go on to tell
pub record FailsFront (front : List ℕ) (file limit : ℕ) (f : FileFault) : Type 0 where
  pub each : (bytes : List ℕ) → IsFile front file bytes → Fails bytes limit f
  pub settled : (at : ℕ) → NeedsMore front file limit at → ⊥

-- that fault; or more of the file is needed
abbrev pub RefusesFront : (front : List ℕ) (file limit : ℕ) → FrontRefusal → Type 0
RefusesFront front file limit (Fault f) = FailsFront front file limit f
RefusesFront front file limit (More at) = NeedsMore front file limit at
RefusesFront front file limit Memory = Unit {0}

-- ---- what was found

-- each file of this length that begins with the front passes with this header, and these are its variables at their places
pub record FindsOf (front : List ℕ) (file limit : ℕ) (h : Header) (p : Placed) : Type 0 where
  pub begins : Begins front limit h
  pub placed : IsPlaced h.schema (places_of h.places) h.length file
  pub passes : (bytes : List ℕ) → IsFile front file bytes → PassesWith bytes limit h
  pub holds : Holds h.schema (places_of h.places) h.length file p

-- and these are its notes
pub record Judges (front : List ℕ) (file limit : ℕ) (j : Judgement) : Type 0 where
  pub finds : FindsOf front file limit j.header j.placed
  pub notes : AreNotes j.header j.notes.items

abbrev pub JudgesFront : (front : List ℕ) (file limit : ℕ) → Result Judgement FrontRefusal → Type 0
JudgesFront front file limit (Ok j) = Judges front file limit j
JudgesFront front file limit (Err e) = RefusesFront front file limit e

-- ---- one judgement

-- two findings that say the same
pub record IsSameFinding (h : Header) (p : Placed) (k : Header) (q : Placed) : Type 0 where
  pub header : h ≡ k
  pub records : records_of_file p ≡ records_of_file q
  pub record_size : record_size_of_file p ≡ record_size_of_file q
  pub vars : vars_of p ≡ vars_of q

-- two judgements that say the same
pub record IsSameFile (j k : Judgement) : Type 0 where
  pub finding : IsSameFinding j.header j.placed k.header k.placed
  pub notes : j.notes.items ≡ k.notes.items

-- two answers that say the same, unless memory was refused for one
abbrev pub IsSame : (a b : Result Judgement FrontRefusal) → Type 0
IsSame (Ok j) (Ok k) = IsSameFile j k
IsSame (Ok j) (Err Memory) = Unit {0}
IsSame (Ok j) (Err r) = ⊥
IsSame (Err Memory) b = Unit {0}
IsSame (Err r) (Ok k) = ⊥
IsSame (Err r) (Err Memory) = Unit {0}
IsSame (Err r) (Err q) = r ≡ q
