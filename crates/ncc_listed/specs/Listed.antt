-- What the engines of `list --json` write.
use Rattle.std.specs.Prelude.{◌≡◌, ℕ, List}
use Rattle.json.specs.Print.{print}
use Rattle.ncc_schema.specs.declared.schema.Header.{Header}
use Rattle.ncc_header.specs.Answers.{Begins, Stops}
use Rattle.ncc_header.specs.declared.fault.Fault.{Fault}
use Rattle.ncc_check.specs.declared.fault.FileFault.TheVariants as of
use Rattle.ncc_answers.specs.declared.answer.Answer.{Answer}
use Rattle.ncc_answers.specs.declared.answer.Answer.TheVariants.{Passed, Refused, Device, Memory}
use Rattle.ncc_answers.specs.Answers.{Writes}
use Rattle.ncc_lines.specs.declared.style.FloatStyle.{FloatStyle}
use Rattle.ncc_places.specs.Members.{file_fault_members}
use Rattle.ncc_listed.specs.Members.{list_members}

-- the members of the header that begins the input, with its floats in this style
abbrev pub IsHeaderOf : (input : List ℕ) (limit : ℕ) → FloatStyle → (text : List ℕ) → Type 0
IsHeaderOf input limit style text = (h : Header) × Begins input limit h × (text ≡ print (list_members style h))

-- the members of the input's fault
abbrev pub IsFaultOf : (input : List ℕ) (limit : ℕ) → (text : List ℕ) → Type 0
IsFaultOf input limit text = (f : Fault) × Stops input limit f × (text ≡ print (file_fault_members (of.Header f)))

-- a header passes, and a fault is refused
abbrev pub IsListedText : (input : List ℕ) (limit : ℕ) → FloatStyle → Answer → (text : List ℕ) → Type 0
IsListedText input limit style Passed text = IsHeaderOf input limit style text
IsListedText input limit style Refused text = IsFaultOf input limit text
IsListedText input limit style Device text = ⊥
IsListedText input limit style Memory text = ⊥

-- what went out, by the answer
abbrev pub ListsMembers : (input : List ℕ) (limit : ℕ) → FloatStyle → Answer → (out : List ℕ) → Type 0
ListsMembers input limit style answer out = Writes (IsListedText input limit style) answer out
