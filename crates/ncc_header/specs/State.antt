-- What a decoder's state says of the bytes that it has taken, and what its answers say.
use Rattle.std.specs.Prelude.{◌≡◌, ◌≢◌, ◌⊎◌, ℕ, ◌+◌, ◌-◌, ◌≤◌, ◌<◌, List, ◌++◌, length, take, ltb, if◌then◌else◌, Option, Some, None, Result, Ok, Err}
use Rattle.ncc_values.specs.Numbers.{IsBytes}
use Rattle.ncc_header.specs.declared.fault.Fault.{Fault}
use Rattle.ncc_header.specs.declared.fault.FaultKind.TheVariants.{HeaderTooLong, EndsEarly}
use Rattle.ncc_header.specs.declared.fault.HeaderError.{HeaderError}
use Rattle.ncc_header.specs.declared.fault.HeaderError.TheVariants as errors
use Rattle.ncc_header.specs.declared.reading.Reading.{Reading}
use Rattle.ncc_schema.specs.declared.schema.Schema.{Schema}
use Rattle.ncc_header.specs.declared.state.Fed.{Fed}
use Rattle.ncc_header.specs.declared.state.Fed.TheVariants.{More, Done}
use Rattle.ncc_header.specs.declared.state.State.{State}
use Rattle.ncc_header.specs.declared.state.State.TheVariants as states
use Rattle.ncc_schema.specs.Header.{IsHeader}
use Rattle.ncc_schema.specs.Schema.{Place}
use Rattle.ncc_header.specs.Answers.{Stops}
use Rattle.ncc_header.specs.Steps.{size_of}
use Rattle.ncc_header.specs.Reading.{from_start, next_of, held_of, onward}

-- ---- what was taken

-- The reading has taken these bytes: what becomes of them and any others becomes of what it has still to read.
pub record HasTaken (r : Reading) (taken : List ℕ) : Type 0 where
  pub bytes : IsBytes taken
  pub goes_on : (more : List ℕ) → from_start r.limit (taken ++ more) ≡ onward r more
  pub long : r.at + length (held_of r) ≡ length taken
  pub still_short : (n : ℕ) → size_of (next_of r) ≡ Some n → length (held_of r) < n

-- a fault that stays, whatever follows
abbrev pub StopsForGood : (input : List ℕ) (limit : ℕ) → Fault → Type 0
StopsForGood input limit f = Stops input limit f × (f.kind ≢ EndsEarly)

abbrev pub FailedOn : (taken : List ℕ) (limit : ℕ) → HeaderError → Type 0
FailedOn taken limit (errors.Fault f) = StopsForGood taken limit f
FailedOn taken limit errors.Device = ⊥
FailedOn taken limit errors.Memory = Unit {0}

abbrev pub limit_at : State → ℕ
limit_at (states.Reading r) = r.limit
limit_at (states.Failed limit e) = limit

abbrev pub TookAt : State → (taken : List ℕ) → Type 0
TookAt (states.Reading r) taken = HasTaken r taken
TookAt (states.Failed limit e) taken = FailedOn taken limit e

abbrev pub HasFailedAt : State → HeaderError → Type 0
HasFailedAt (states.Reading r) e = ⊥
HasFailedAt (states.Failed limit met) e = met ≡ e

-- ---- what is answered

-- all of these bytes are a header within the limit
abbrev pub IsWhole : (bytes : List ℕ) (limit : ℕ) → Type 0
IsWhole bytes limit = (s : Schema) × (places : List Place) × IsHeader s places bytes × (length bytes ≤ limit)

-- the input ends inside of a field, and has no other fault
abbrev pub GoesOn : (input : List ℕ) (limit : ℕ) → Type 0
GoesOn input limit = (f : Fault) × Stops input limit f × (f.kind ≡ EndsEarly)

-- whatever follows, no more bytes are taken: the bytes are a header within the limit, or have a fault that stays
abbrev pub IsSettled : (input : List ℕ) (limit : ℕ) → Type 0
IsSettled input limit = IsWhole input limit ⊎ ((f : Fault) × StopsForGood input limit f)

-- the bytes that a field of this size lacks, of which so many have come; none where it ends past the limit
abbrev pub lacks_of : Option ℕ → (limit at held : ℕ) → ℕ
lacks_of None limit at held = 0
lacks_of (Some n) limit at held = if ltb limit (at + n) then 0 else n - held

-- the fault of an input that ends inside of a field
abbrev pub cut_at : (limit at size : ℕ) → Fault
cut_at limit at size = record { kind = if ltb limit (at + size) then HeaderTooLong else EndsEarly; offset = at }

-- the answer where a field of this size is next, or none
abbrev pub fed_of : Option ℕ → (used : ℕ) → Fed
fed_of (Some n) used = More
fed_of None used = Done used

-- the bytes of the piece that are taken where this is answered
abbrev pub front_taken : Result Fed HeaderError → (piece : List ℕ) → List ℕ
front_taken (Ok (Done used)) piece = take used piece
front_taken _ piece = piece

-- this answer, unless memory was refused
abbrev pub FedOrMemory : Result Fed HeaderError → Result Fed HeaderError → Type 0
FedOrMemory result answer = (result ≡ answer) ⊎ (result ≡ Err errors.Memory)

-- what an answer says of the bytes that were taken and the piece, unless memory was refused
abbrev pub Feeds : (taken piece : List ℕ) (limit : ℕ) → Result Fed HeaderError → Type 0
Feeds taken piece limit (Ok More) = GoesOn (taken ++ piece) limit
Feeds taken piece limit (Ok (Done used)) = (used ≤ length piece) × IsWhole (taken ++ take used piece) limit
Feeds taken piece limit (Err e) = FailedOn (taken ++ piece) limit e
