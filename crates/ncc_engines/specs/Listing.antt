-- What the list engine writes.
use Rattle.std.specs.Prelude.{◌≡◌, ℕ, List}
use Rattle.ncc_header.specs.declared.fault.Fault.{Fault}
use Rattle.ncc_schema.specs.declared.schema.Header.{Header}
use Rattle.ncc_header.specs.Answers.{Begins, Stops}
use Rattle.ncc_lines.specs.Texts.{list_text, fault_line}
use Rattle.ncc_lines.specs.declared.style.FloatStyle.{FloatStyle}
use Rattle.ncc_answers.specs.declared.answer.Answer.{Answer}
use Rattle.ncc_answers.specs.declared.answer.Answer.TheVariants.{Passed, Refused, Device, Memory}
use Rattle.ncc_answers.specs.Answers.{Writes}

-- the lines of the header that begins the input, with its floats in this style
abbrev pub IsListOf : (input : List ℕ) (limit : ℕ) → FloatStyle → (text : List ℕ) → Type 0
IsListOf input limit style text = (h : Header) × Begins input limit h × (text ≡ list_text style h)

-- the line of the input's fault
abbrev pub IsFaultOf : (input : List ℕ) (limit : ℕ) → (text : List ℕ) → Type 0
IsFaultOf input limit text = (f : Fault) × Stops input limit f × (text ≡ fault_line f)

-- a header passes, and a fault is refused
abbrev pub IsListText : (input : List ℕ) (limit : ℕ) → FloatStyle → Answer → (text : List ℕ) → Type 0
IsListText input limit style Passed text = IsListOf input limit style text
IsListText input limit style Refused text = IsFaultOf input limit text
IsListText input limit style Device text = ⊥
IsListText input limit style Memory text = ⊥

-- what went out, by the answer
abbrev pub Lists : (input : List ℕ) (limit : ℕ) → FloatStyle → Answer → (out : List ℕ) → Type 0
Lists input limit style answer out = Writes (IsListText input limit style) answer out
