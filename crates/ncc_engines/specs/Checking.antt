-- What the check engine writes.
use Rattle.std.specs.Prelude.{◌≡◌, ◌⊎◌, ℕ, Bool, List, Ok}
use Rattle.ncc_check.specs.declared.fault.FileFault.{FileFault}
use Rattle.ncc_check.specs.declared.report.Report.{Report}
use Rattle.ncc_check.specs.Checks.{Checks}
use Rattle.ncc_check.specs.Faults.{Fails}
use Rattle.ncc_lines.specs.Verdicts.{report_text, file_fault_line}
use Rattle.ncc_answers.specs.declared.answer.Answer.{Answer}
use Rattle.ncc_answers.specs.declared.answer.Answer.TheVariants.{Passed, Refused, Device, Memory}
use Rattle.ncc_answers.specs.Answers.{Writes}
use Rattle.ncc_answers.specs.Judged.{verdict}

-- bytes that pass, with this answer, and the lines of their report
abbrev pub IsReportOf : (bytes : List ℕ) (limit : ℕ) (strict : Bool) → Answer → (text : List ℕ) → Type 0
IsReportOf bytes limit strict answer text =
    (r : Report) × Checks bytes limit (Ok r) × (answer ≡ verdict strict r) × (text ≡ report_text r)

-- the line of the first fault of bytes
abbrev pub IsFaultOf : (bytes : List ℕ) (limit : ℕ) → (text : List ℕ) → Type 0
IsFaultOf bytes limit text = (f : FileFault) × Fails bytes limit f × (text ≡ file_fault_line f)

abbrev pub IsCheckText : (bytes : List ℕ) (limit : ℕ) (strict : Bool) → Answer → (text : List ℕ) → Type 0
IsCheckText bytes limit strict Passed text = IsReportOf bytes limit strict Passed text
IsCheckText bytes limit strict Refused text = IsReportOf bytes limit strict Refused text ⊎ IsFaultOf bytes limit text
IsCheckText bytes limit strict Device text = ⊥
IsCheckText bytes limit strict Memory text = ⊥

-- what went out, by the answer
abbrev pub ChecksInto : (bytes : List ℕ) (limit : ℕ) (strict : Bool) → Answer → (out : List ℕ) → Type 0
ChecksInto bytes limit strict answer out = Writes (IsCheckText bytes limit strict) answer out
