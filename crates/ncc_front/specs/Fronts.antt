-- What is found out about a file of which the front is there.
use Rattle.std.specs.Prelude.{◌≡◌, ℕ, ◌+◌, ◌<◌, List, ◌++◌, length, Result, Ok, Err}
use Rattle.ncc_schema.specs.declared.schema.Header.{Header}
use Rattle.ncc_header.specs.declared.fault.Fault.{Fault as HeaderFault}
use Rattle.ncc_header.specs.declared.fault.FaultKind.TheVariants.{EndsEarly}
use Rattle.ncc_header.specs.Answers.{Begins, Stops}
use Rattle.ncc_front.specs.declared.reading.FrontError.{FrontError}
use Rattle.ncc_front.specs.declared.reading.FrontError.TheVariants.{Fault, More, Memory}

-- the bytes of a file of this length that begins with the front
pub record IsFile (front : List ℕ) (file : ℕ) (bytes : List ℕ) : Type 0 where
  pub rest : List ℕ
  pub joined : bytes ≡ front ++ rest
  pub long : length front + length rest ≡ file

-- the front ends inside of the header's field at this offset, and neither the file nor the limit ends there
pub record NeedsMore (front : List ℕ) (file limit at : ℕ) : Type 0 where
  pub fault : HeaderFault
  pub stops : Stops front limit fault
  pub early : fault.kind ≡ EndsEarly
  pub there : fault.offset ≡ at
  pub in_file : length front < file
  pub in_limit : length front < limit

-- each such file has this fault in its header, whatever follows the front
pub record StopsFront (front : List ℕ) (file limit : ℕ) (f : HeaderFault) : Type 0 where
  pub each : (bytes : List ℕ) → IsFile front file bytes → Stops bytes limit f
  pub settled : (at : ℕ) → NeedsMore front file limit at → ⊥

-- the fault of each such file; or the front goes on
abbrev pub IsSaid : (front : List ℕ) (file limit : ℕ) → FrontError → Type 0
IsSaid front file limit (Fault f) = StopsFront front file limit f
IsSaid front file limit (More at) = NeedsMore front file limit at
IsSaid front file limit Memory = Unit {0}

-- the header of each such file, or what is said of it
abbrev pub ReadsFront : (front : List ℕ) (file limit : ℕ) → Result Header FrontError → Type 0
ReadsFront front file limit (Ok h) = Begins front limit h
ReadsFront front file limit (Err e) = IsSaid front file limit e
