-- What a reading has taken, and what it has still to read.
use Rattle.std.specs.Prelude.{◌≡◌, ◌≢◌, ℕ, ◌+◌, ◌-◌, ◌*◌, ◌≤◌, ◌<◌, List, [], ◌++◌, length, take, Some}
use Rattle.ncc_header.specs.declared.fault.Fault.{Fault}
use Rattle.ncc_header.specs.declared.fault.FaultKind.TheVariants.{EndsEarly}
use Rattle.ncc_header.specs.declared.fault.HeaderError.{HeaderError}
use Rattle.ncc_header.specs.declared.fault.HeaderError.TheVariants as errors
use Rattle.ncc_header.specs.declared.reading.Reading.{Reading}
use Rattle.ncc_schema.specs.declared.schema.Mark.{Mark}
use Rattle.ncc_header.specs.declared.fault.StepError.{StepError}
use Rattle.ncc_header.specs.declared.fault.StepError.TheVariants as steps
use Rattle.ncc_header.specs.Grammar.{Grammar, Outcome, read, stops, lacking, fields}
use Rattle.ncc_header.specs.Fields.{header}
use Rattle.ncc_header.specs.Marks.{marks, begins}
use Rattle.ncc_header.specs.Left.{Given, left_of, begins_of, front_of, idle_of}
use Rattle.ncc_header.specs.Steps.{size_of}

-- what becomes of an input: where reading it ends, what it lacks, and what its fields show
pub record Course : Type 0 where
  pub outcome : Outcome Given
  pub lacks : ℕ
  pub shown : List Mark
  pub begun : List ℕ

-- of an input for g from an offset on, after fields that have shown so much
abbrev pub course : Grammar Given → (limit at : ℕ) → List Mark → List ℕ → (input : List ℕ) → Course
course g limit at shown begun input = record {
  outcome = read g limit at input;
  lacks = lacking g limit at input;
  shown = shown ++ marks (fields g at input);
  begun = begun ++ begins (fields g at input);
}

-- of an input from its first byte on
abbrev pub from_start : (limit : ℕ) (input : List ℕ) → Course
from_start limit input = course header limit 0 [] [] input

-- what is left to read
abbrev pub next_of : Reading → Grammar Given
next_of r = left_of r.next r.partial

-- the bytes of the next field that have come
abbrev pub held_of : Reading → List ℕ
held_of r = front_of r.next r.partial r.held.items

-- where the begin fields so far were
abbrev pub begun_of : Reading → List ℕ
begun_of r = begins_of r.next r.partial.lists.vars

-- of an input of which a reading has come so far, where these bytes come next
abbrev pub onward : Reading → (more : List ℕ) → Course
onward r more = course (next_of r) r.limit r.at r.marks.items (begun_of r) (held_of r ++ more)

-- The bytes of front were taken.
pub record Takes (old new : Reading) (front : List ℕ) : Type 0 where
  pub limit : new.limit ≡ old.limit
  pub goes_on : (more : List ℕ) → onward old (front ++ more) ≡ onward new more
  pub long : new.at + length (held_of new) ≡ old.at + length (held_of old) + length front

-- So many bytes of the piece were taken.
pub record Went (old new : Reading) (piece : List ℕ) (used : ℕ) : Type 0 where
  pub within : used ≤ length piece
  pub takes : Takes old new (take used piece)

-- how many fields may follow: each byte within the limit may end one with two after it that have none
abbrev pub effort_of : Reading → ℕ
effort_of r = 3 * (r.limit - r.at) + idle_of r.next

-- After the bytes of front the input stops so, whatever follows.
pub record StopsBehind (old : Reading) (front : List ℕ) (f : Fault) : Type 0 where
  pub stays : (more : List ℕ) → (onward old (front ++ more)).outcome ≡ stops f.offset f.kind
  pub other : f.kind ≢ EndsEarly

-- an error met while the bytes of front were taken
abbrev pub FailsBehind : Reading → (front : List ℕ) → HeaderError → Type 0
FailsBehind old front (errors.Fault f) = StopsBehind old front f
FailsBehind old front errors.Device = ⊥
FailsBehind old front errors.Memory = Unit {0}

-- no field is left, or the next one is within the limit and not whole
abbrev pub Waits : Reading → Type 0
Waits r = (n : ℕ) → size_of (next_of r) ≡ Some n → (r.at + n ≤ r.limit) × (length (held_of r) < n)

-- the same, after so many more bytes
abbrev pub WaitsBehind : Reading → (more : ℕ) → Type 0
WaitsBehind r more = (n : ℕ) → size_of (next_of r) ≡ Some n → (r.at + n ≤ r.limit) × (length (held_of r) + more < n)

-- the error of a field at this offset that is not taken
abbrev pub told_of : (at : ℕ) → StepError → HeaderError
told_of at steps.Memory = errors.Memory
told_of at (steps.Wrong w) = errors.Fault (record { kind = w.kind; offset = at - w.back })
