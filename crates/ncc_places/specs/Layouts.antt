-- What the layout engine writes.
use Rattle.std.specs.Prelude.{◌≡◌, ℕ, List, length}
use Rattle.ncc_schema.specs.declared.schema.Header.{Header}
use Rattle.ncc_header.specs.Answers.{Begins}
use Rattle.ncc_layout.specs.Sizes.{NoneTooLarge}
use Rattle.ncc_check.specs.declared.fault.FileFault.{FileFault}
use Rattle.ncc_check.specs.Faults.{Fails}
use Rattle.ncc_lines.specs.Verdicts.{file_fault_line}
use Rattle.ncc_answers.specs.declared.answer.Answer.{Answer}
use Rattle.ncc_answers.specs.declared.answer.Answer.TheVariants.{Passed, Refused, Device, Memory}
use Rattle.ncc_answers.specs.Answers.{Writes}
use Rattle.ncc_places.specs.Measuring.{HidesPlaces}
use Rattle.json.specs.Print.{print}
use Rattle.ncc_json.specs.declared.wording.Wording.{Wording}
use Rattle.ncc_json.specs.declared.wording.Wording.TheVariants.{Members, Words}
use Rattle.ncc_places.specs.Members.{file_fault_members, layout_members}
use Rattle.ncc_places.specs.Words.{layout_text}

-- ---- how it is put

abbrev pub layout_told : Wording → Header → (file : ℕ) → List ℕ
layout_told Words h file = layout_text h file
layout_told Members h file = print (layout_members h file)

abbrev pub fault_told : Wording → FileFault → List ℕ
fault_told Words f = file_fault_line f
fault_told Members f = print (file_fault_members f)

-- ---- what is right of bytes

-- what is told of bytes that begin with a header none of whose variables is too large, by the header and their length
pub record IsToldOf (told : Header → (file : ℕ) → List ℕ) (bytes : List ℕ) (limit : ℕ) (text : List ℕ) : Type 0 where
  pub header : Header
  pub begins : Begins bytes limit header
  pub none_too_large : NoneTooLarge header.schema.dims header.schema.vars
  pub text_is : text ≡ told header (length bytes)

-- what is told of the first fault of bytes, with which nothing has a place
abbrev pub IsToldFaultOf : (told : FileFault → List ℕ) → (bytes : List ℕ) (limit : ℕ) → (text : List ℕ) → Type 0
IsToldFaultOf told bytes limit text = (f : FileFault) × Fails bytes limit f × HidesPlaces f × (text ≡ told f)

-- a layout passes, whatever its faults, and a fault with which nothing has a place is refused
abbrev pub IsToldText : (told : Header → (file : ℕ) → List ℕ) → (faulty : FileFault → List ℕ)
    → (bytes : List ℕ) (limit : ℕ) → Answer → (text : List ℕ) → Type 0
IsToldText told faulty bytes limit Passed text = IsToldOf told bytes limit text
IsToldText told faulty bytes limit Refused text = IsToldFaultOf faulty bytes limit text
IsToldText told faulty bytes limit Device text = ⊥
IsToldText told faulty bytes limit Memory text = ⊥

-- the line of the first fault
abbrev pub IsFaultOf : Wording → (bytes : List ℕ) (limit : ℕ) → (text : List ℕ) → Type 0
IsFaultOf wording bytes limit text = IsToldFaultOf (fault_told wording) bytes limit text

-- where everything lies, or that line
abbrev pub IsLayoutText : Wording → (bytes : List ℕ) (limit : ℕ) → Answer → (text : List ℕ) → Type 0
IsLayoutText wording bytes limit answer text = IsToldText (layout_told wording) (fault_told wording) bytes limit answer text

-- what went out, by the answer
abbrev pub LaysOut : Wording → (bytes : List ℕ) (limit : ℕ) → Answer → (out : List ℕ) → Type 0
LaysOut wording bytes limit answer out = Writes (IsLayoutText wording bytes limit) answer out
