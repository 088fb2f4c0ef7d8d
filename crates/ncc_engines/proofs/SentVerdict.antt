-- What `check` sent is the text of its bytes, or a front of it.
use Rattle.std.proofs.Common.{◌≡◌, ℕ, Bool, true, false, List, [], ◌∷◌, Option, Result, Ok, refl, sym, ap, subst, ◌∙◌, ◌⊎◌, inl, inr}
use Rattle.ncc_check.specs.declared.fault.FileFault.{FileFault}
use Rattle.ncc_check.specs.declared.note.Note.{Note}
use Rattle.ncc_check.specs.declared.report.Report.{Report}
use Rattle.ncc_check.specs.Checks.{Checks}
use Rattle.ncc_check.specs.Faults.{Fails}
use Rattle.ncc_check.specs.Passes.{Passes}
use Rattle.ncc_lines.specs.declared.send_error.SendError.{SendError}
use Rattle.ncc_lines.specs.Verdicts.{report_text, file_fault_line}
use Rattle.ncc_lines.specs.Sends.{SendsAll}
use Rattle.ncc_answers.specs.declared.answer.Answer.{Answer}
use Rattle.ncc_answers.specs.declared.answer.Answer.TheVariants.{Passed, Refused, Device, Memory}
use Rattle.ncc_answers.specs.Answers.{Writes, answer_of}
use Rattle.ncc_answers.specs.Judged.{verdict_on, verdict}
use Rattle.ncc_engines.specs.Checking.{IsFaultOf, IsCheckText}
use Rattle.ncc_answers.proofs.Sent.{Gone, OneText, sent}

-- the laws of bytes that pass that make their text one
pub record Laws : Type 0 where
  pub apart : (bytes : List ℕ) (limit : ℕ) (f : FileFault) → Passes bytes limit → Fails bytes limit f → ⊥
  pub one_report : (bytes : List ℕ) (limit : ℕ) (r q : Report) → Checks bytes limit (Ok r) → Checks bytes limit (Ok q) → r ≡ q
  pub one_fault : (bytes : List ℕ) (limit : ℕ) (f g : FileFault) → Fails bytes limit f → Fails bytes limit g → f ≡ g

-- the lines of the report of bytes
abbrev pub IsReportText : (bytes : List ℕ) (limit : ℕ) (text : List ℕ) → Type 0
IsReportText bytes limit text = (r : Report) × Checks bytes limit (Ok r) × (text ≡ report_text r)

either : (bytes : List ℕ) (limit : ℕ) (strict : Bool) (answer : Answer) (text : List ℕ) → IsCheckText bytes limit strict answer text → IsReportText bytes limit text ⊎ IsFaultOf bytes limit text
either bytes limit strict Passed text is = inl (is.0, is.1, is.3)
either bytes limit strict Refused text (inl is) = inl (is.0, is.1, is.3)
either bytes limit strict Refused text (inr is) = inr is
either bytes limit strict Device text is = absurd is
either bytes limit strict Memory text is = absurd is

same_text : Laws → (bytes : List ℕ) (limit : ℕ) (t u : List ℕ) → IsReportText bytes limit t ⊎ IsFaultOf bytes limit t → IsReportText bytes limit u ⊎ IsFaultOf bytes limit u → t ≡ u
same_text laws bytes limit t u (inl a) (inl b) = a.2 ∙ ap report_text (laws.one_report bytes limit a.0 b.0 a.1 b.1) ∙ sym b.2
same_text laws bytes limit t u (inl a) (inr b) = absurd (laws.apart bytes limit b.0 (a.1.0, a.1.1) b.1)
same_text laws bytes limit t u (inr a) (inl b) = absurd (laws.apart bytes limit a.0 (b.1.0, b.1.1) a.1)
same_text laws bytes limit t u (inr a) (inr b) = a.2 ∙ ap file_fault_line (laws.one_fault bytes limit a.0 b.0 a.1 b.1) ∙ sym b.2

one_text : Laws → (bytes : List ℕ) (limit : ℕ) (strict : Bool) → OneText (IsCheckText bytes limit strict)
one_text laws bytes limit strict a b t u is other = same_text laws bytes limit t u (either bytes limit strict a t is) (either bytes limit strict b u other)

-- a report comes to neither failure
never_device : (strict : Bool) (notes : List Note) → Device ≡ verdict_on strict notes → ⊥
never_device false notes e = cc
never_device true [] e = cc
never_device true (n ∷ notes) e = cc

never_memory : (strict : Bool) (notes : List Note) → Memory ≡ verdict_on strict notes → ⊥
never_memory false notes e = cc
never_memory true [] e = cc
never_memory true (n ∷ notes) e = cc

-- the text of a report is right for the answer that it comes to
right : (bytes : List ℕ) (limit : ℕ) (strict : Bool) (r : Report) (answer : Answer) → answer ≡ verdict strict r → Checks bytes limit (Ok r)
    → IsCheckText bytes limit strict answer (report_text r) × Writes (IsCheckText bytes limit strict) answer (report_text r)
right bytes limit strict r Passed e a = ((r, a, e, refl), (r, a, e, refl))
right bytes limit strict r Refused e a = (inl (r, a, e, refl), inl (r, a, e, refl))
right bytes limit strict r Device e a = absurd (never_device strict r.notes e)
right bytes limit strict r Memory e a = absurd (never_memory strict r.notes e)

pub sent_report : Laws → (bytes : List ℕ) (limit : ℕ) (strict : Bool) (old new : Option (List ℕ)) (r : Report) (judged answer : Answer) (result : Result (Unit {0}) SendError) → Checks bytes limit (Ok r) → judged ≡ verdict strict r
    → SendsAll old new (report_text r) result → answer ≡ answer_of result judged → Gone (IsCheckText bytes limit strict) old new answer
sent_report laws bytes limit strict old new r judged answer result a j s e =
    let both = right bytes limit strict r judged j a in
    subst (λ (x : Answer). Gone (IsCheckText bytes limit strict) old new x) (sym e)
    (sent (IsCheckText bytes limit strict) (one_text laws bytes limit strict) old new (report_text r) judged result both.0 both.1 s)

pub sent_file_fault : Laws → (bytes : List ℕ) (limit : ℕ) (strict : Bool) (old new : Option (List ℕ)) (f : FileFault) (answer : Answer) (result : Result (Unit {0}) SendError) → Fails bytes limit f
    → SendsAll old new (file_fault_line f) result → answer ≡ answer_of result Refused → Gone (IsCheckText bytes limit strict) old new answer
sent_file_fault laws bytes limit strict old new f answer result a s e =
    subst (λ (x : Answer). Gone (IsCheckText bytes limit strict) old new x) (sym e)
    (sent (IsCheckText bytes limit strict) (one_text laws bytes limit strict) old new (file_fault_line f) Refused result (inr (f, a, refl)) (inr (f, a, refl)) s)
