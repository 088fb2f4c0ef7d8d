-- What `ncc check --explain` and `ncc check --json` write.
use Rattle.std.specs.Prelude.{◌≡◌, ◌⊎◌, ℕ, ◌+◌, ◌*◌, ◌≤◌, max, min, Bool, List, [], ◌++◌, length, Result, Ok, Err}
use Rattle.ncc_values.specs.Failures.{Rose}
use Rattle.ncc_schema.specs.declared.schema.Header.{Header}
use Rattle.ncc_store.specs.declared.store.Store.{Ghosts}
use Rattle.ncc_header.specs.declared.fault.Fault.{Fault}
use Rattle.ncc_header.specs.Answers.{Begins, Stops}
use Rattle.ncc_layout.specs.declared.fault.LayoutFault.{LayoutFault}
use Rattle.ncc_layout.specs.Sizes.{AreSizes}
use Rattle.ncc_check.specs.declared.report.Report.{Report}
use Rattle.ncc_check.specs.Checks.{Reports}
use Rattle.ncc_check.specs.Examining.{FailsIn, HasSizes, IsChecked}
use Rattle.ncc_check.specs.Faults.{HasLayoutFault}
use Rattle.ncc_check.specs.FromStore.{IsBegun, SettledBy, reads_for}
use Rattle.ncc_check.specs.Passes.{PassesWith}
use Rattle.ncc_lines.specs.declared.send_error.SendError.{SendError}
use Rattle.ncc_lines.specs.declared.send_error.SendError.TheVariants as send_errors
use Rattle.ncc_answers.specs.declared.answer.Answer.{Answer}
use Rattle.ncc_answers.specs.declared.answer.Answer.TheVariants.{Passed, Refused, Device, Memory}
use Rattle.ncc_answers.specs.Judged.{verdict}
use Rattle.json.specs.Print.{print}
use Rattle.ncc_json.specs.declared.wording.Wording.{Wording}
use Rattle.ncc_json.specs.declared.wording.Wording.TheVariants.{Members, Words}
use Rattle.ncc_explain.specs.declared.examining.Examined.{Examined}
use Rattle.ncc_explain.specs.declared.examining.Examined.TheVariants as examined
use Rattle.ncc_explain.specs.declared.site.Site.{Site}
use Rattle.ncc_explain.specs.Members.{header_fault_members, layout_fault_members, report_members}
use Rattle.ncc_explain.specs.Sites.{IsSite}
use Rattle.ncc_explain.specs.Words.{told_header_fault, told_layout_fault, told_report}

-- ---- how it is put

-- what is told of a file that passes
abbrev pub report_told : Wording → Header → Report → List ℕ
report_told Words h r = told_report h r
report_told Members h r = print (report_members h r)

-- what is told of the first fault of a layout
abbrev pub layout_fault_told : Wording → Header → (file : ℕ) → LayoutFault → List ℕ
layout_fault_told Words h file f = told_layout_fault h file f
layout_fault_told Members h file f = print (layout_fault_members h file f)

-- what is told of the first fault of a header
abbrev pub header_fault_told : Wording → (limit : ℕ) → Fault → Site → List ℕ
header_fault_told Words limit f x = told_header_fault limit f x
header_fault_told Members limit f x = print (header_fault_members limit f x)

-- ---- what is right of bytes

-- bytes that pass, with this answer, and what is told of their report
pub record IsToldReport (wording : Wording) (bytes : List ℕ) (limit : ℕ) (strict : Bool) (answer : Answer) (text : List ℕ) : Type 0 where
  pub header : Header
  pub report : Report
  pub passes : PassesWith bytes limit header
  pub reports : Reports header (length bytes) report
  pub answer_is : answer ≡ verdict strict report
  pub text_is : text ≡ report_told wording header report

-- what is told of the first fault of the header of bytes
pub record IsToldHeader (wording : Wording) (bytes : List ℕ) (limit : ℕ) (text : List ℕ) : Type 0 where
  pub fault : Fault
  pub site : Site
  pub stops : Stops bytes limit fault
  pub is_site : IsSite bytes limit fault site
  pub text_is : text ≡ header_fault_told wording limit fault site

-- what is told of the first fault of the layout of bytes
pub record IsToldLayout (wording : Wording) (bytes : List ℕ) (limit : ℕ) (text : List ℕ) : Type 0 where
  pub header : Header
  pub fault : LayoutFault
  pub begins : Begins bytes limit header
  pub fails : HasLayoutFault header (length bytes) fault
  pub text_is : text ≡ layout_fault_told wording header (length bytes) fault

-- what is told of the first fault of bytes
abbrev pub IsToldFault : Wording → (bytes : List ℕ) (limit : ℕ) (text : List ℕ) → Type 0
IsToldFault wording bytes limit text = IsToldHeader wording bytes limit text ⊎ IsToldLayout wording bytes limit text

abbrev pub IsToldText : Wording → (bytes : List ℕ) (limit : ℕ) (strict : Bool) → Answer → (text : List ℕ) → Type 0
IsToldText wording bytes limit strict Passed text = IsToldReport wording bytes limit strict Passed text
IsToldText wording bytes limit strict Refused text =
    IsToldReport wording bytes limit strict Refused text ⊎ IsToldFault wording bytes limit text
IsToldText wording bytes limit strict Device text = ⊥
IsToldText wording bytes limit strict Memory text = ⊥

-- nothing, or the beginning of a text that is right
abbrev pub BeginsTold : Wording → (bytes : List ℕ) (limit : ℕ) (strict : Bool) → (out : List ℕ) → Type 0
BeginsTold wording bytes limit strict out =
    (out ≡ []) ⊎ ((answer : Answer) × (rest : List ℕ) × IsToldText wording bytes limit strict answer (out ++ rest))

-- what went out, by the answer: the text; after a failure of the device nothing or its beginning; without memory nothing
abbrev pub ExplainsInto : Wording → (bytes : List ℕ) (limit : ℕ) (strict : Bool) → Answer → (out : List ℕ) → Type 0
ExplainsInto wording bytes limit strict Passed out = IsToldText wording bytes limit strict Passed out
ExplainsInto wording bytes limit strict Refused out = IsToldText wording bytes limit strict Refused out
ExplainsInto wording bytes limit strict Device out = BeginsTold wording bytes limit strict out
ExplainsInto wording bytes limit strict Memory out = out ≡ []

-- ---- what is found

-- of bytes
abbrev pub AreExamined : (bytes : List ℕ) (limit : ℕ) → Examined → Type 0
AreExamined bytes limit (examined.Passing x) = IsChecked bytes limit x
AreExamined bytes limit (examined.Unplaced x) = Begins bytes limit x.header × FailsIn x.header (length bytes) x
AreExamined bytes limit (examined.Headless f x) = Stops bytes limit f × IsSite bytes limit f x

-- what holds of it, whatever the store tells
abbrev pub IsExamined : Examined → Type 0
IsExamined (examined.Passing x) = IsBegun x.header × AreSizes x.header.schema x.sizes
IsExamined (examined.Unplaced x) = IsBegun x.header × HasSizes x.header x.fault.kind x.sizes
IsExamined (examined.Headless f x) = Unit {0}

-- ---- calls

-- the header of bytes has a fault
abbrev pub HasHeaderFault : (bytes : List ℕ) (limit : ℕ) → Type 0
HasHeaderFault bytes limit = (f : Fault) × Stops bytes limit f

-- the calls where what may be the header is read twice: two for the length, and one more for a field
abbrev pub calls_twice : (file limit : ℕ) → ℕ
calls_twice file limit = 3 + 2 * reads_for (min file limit)

-- Where so many reads settle what the header is, there were as many, three other calls, and, if it has a fault, those that
-- read it once more as far as the fault. None ended more than 8 bytes after what settles it.
pub record ReadsTwice {S : Type 0} (g : Ghosts S) (old new : S) (bytes : List ℕ) (limit : ℕ) : Type 0 where
  pub calls : (n : ℕ) (f : Fault) → SettledBy bytes limit n → Stops bytes limit f → g.calls new ≤ g.calls old + 3 + n + reads_for f.offset
  pub sound : (n : ℕ) → SettledBy bytes limit n → ¬ HasHeaderFault bytes limit → g.calls new ≤ g.calls old + 1 + n
  pub reach : (n : ℕ) → SettledBy bytes limit n → g.reach new ≤ max (g.reach old) (n * 65536 + 8)

-- a device is blamed only where it failed
abbrev pub SendErrorCounts : {T : Type 0} → (old new : ℕ) → Result T SendError → Type 0
SendErrorCounts old new (Ok x) = new ≡ old
SendErrorCounts old new (Err send_errors.Device) = Rose old new
SendErrorCounts old new (Err send_errors.Memory) = new ≡ old
