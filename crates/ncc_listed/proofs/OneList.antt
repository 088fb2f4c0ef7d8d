-- What is written of an input is one text.
use Rattle.std.proofs.Common.{◌≡◌, ℕ, List, Option, Some, None, Result, Err, refl, sym, ap, subst, ◌∙◌}
use Rattle.std.specs.Prelude.{IfSome}
use Rattle.json.specs.Print.{print}
use Rattle.ncc_schema.specs.declared.schema.Header.{Header}
use Rattle.ncc_header.specs.declared.fault.Fault.{Fault}
use Rattle.ncc_header.specs.declared.fault.HeaderError.{HeaderError}
use Rattle.ncc_header.specs.declared.fault.HeaderError.TheVariants as errors
use Rattle.ncc_header.specs.Answers.{AnswersOf, Begins, Stops}
use Rattle.ncc_check.specs.declared.fault.FileFault.{FileFault}
use Rattle.ncc_check.specs.declared.fault.FileFault.TheVariants as of
use Rattle.ncc_check.specs.declared.fault.Refusal.TheVariants as refusals
use Rattle.ncc_check.specs.FromStore.{ReadsHeader}
use Rattle.ncc_lines.specs.Sends.{SendsAll}
use Rattle.ncc_lines.specs.declared.send_error.SendError.{SendError}
use Rattle.ncc_lines.specs.declared.style.FloatStyle.{FloatStyle}
use Rattle.ncc_answers.specs.declared.answer.Answer.{Answer}
use Rattle.ncc_answers.specs.declared.answer.Answer.TheVariants.{Passed, Refused, Device, Memory}
use Rattle.ncc_answers.specs.Answers.{answer_of}
use Rattle.ncc_answers.proofs.Sent.{Gone, OneText, sent}
use Rattle.ncc_places.specs.Members.{file_fault_members}
use Rattle.ncc_listed.specs.Listed.{IsListedText}
use Rattle.ncc_listed.specs.Members.{list_members}

-- the laws of headers that make it one
pub record Laws : Type 0 where
  pub apart : (input : List ℕ) (limit : ℕ) (h : Header) (f : Fault) → Begins input limit h → Stops input limit f → ⊥
  pub one_header : (input : List ℕ) (limit : ℕ) (h k : Header) → Begins input limit h → Begins input limit k → h ≡ k
  pub one_stop : (input : List ℕ) (limit : ℕ) (f g : Fault) → Stops input limit f → Stops input limit g → f ≡ g

abbrev pub header_text : FloatStyle → Header → List ℕ
header_text style h = print (list_members style h)

abbrev pub fault_text : FileFault → List ℕ
fault_text f = print (file_fault_members f)

module _ (laws : Laws) (style : FloatStyle) (limit : ℕ) where
  one_text : (input : List ℕ) → OneText (IsListedText input limit style)
  one_text input Passed Passed t u x y = x.2 ∙ ap (header_text style) (laws.one_header input limit x.0 y.0 x.1 y.1) ∙ sym y.2
  one_text input Passed Refused t u x y = absurd (laws.apart input limit x.0 y.0 x.1 y.1)
  one_text input Refused Passed t u x y = absurd (laws.apart input limit y.0 x.0 y.1 x.1)
  one_text input Refused Refused t u x y = x.2 ∙ ap (λ (f : Fault). fault_text (of.Header f)) (laws.one_stop input limit x.0 y.0 x.1 y.1) ∙ sym y.2
  one_text input Device b t u x y = absurd x
  one_text input Memory b t u x y = absurd x
  one_text input a Device t u x y = absurd y
  one_text input a Memory t u x y = absurd y

  -- what went out of the text of an input, if there is one
  abbrev GoneOf : (left old new : Option (List ℕ)) → Answer → Type 0
  GoneOf left old new answer = IfSome left (λ input. Gone (IsListedText input limit style) old new answer)

  header_gone : (left old new : Option (List ℕ)) (h : Header) (result : Result (Unit {0}) SendError) → IfSome left (λ input. Begins input limit h)
      → SendsAll old new (header_text style h) result → GoneOf left old new (answer_of result Passed)
  header_gone None old new h result begins all = tt
  header_gone (Some input) old new h result begins all =
      sent (IsListedText input limit style) (one_text input) old new (header_text style h) Passed result (h, begins, refl) (h, begins, refl) all

  fault_gone : (left old new : Option (List ℕ)) (f : Fault) (result : Result (Unit {0}) SendError) → IfSome left (λ input. Stops input limit f)
      → SendsAll old new (fault_text (of.Header f)) result → GoneOf left old new (answer_of result Refused)
  fault_gone None old new f result stops all = tt
  fault_gone (Some input) old new f result stops all =
      sent (IsListedText input limit style) (one_text input) old new (fault_text (of.Header f)) Refused result (f, stops, refl) (f, stops, refl) all

  pub listed : (left old new : Option (List ℕ)) (h : Header) (result : Result (Unit {0}) SendError) (answer : Answer) → IfSome left (λ input. Begins input limit h)
      → SendsAll old new (header_text style h) result → answer ≡ answer_of result Passed → GoneOf left old new answer
  listed left old new h result answer begins all is = subst (GoneOf left old new) (sym is) (header_gone left old new h result begins all)

  pub refused : (left old new : Option (List ℕ)) (f : Fault) (error : HeaderError) (result : Result (Unit {0}) SendError) (answer : Answer) → error ≡ errors.Fault f
      → IfSome left (λ input. AnswersOf input limit (Err error)) → SendsAll old new (fault_text (of.Header f)) result → answer ≡ answer_of result Refused → GoneOf left old new answer
  refused left old new f error result answer same stops all is =
      subst (GoneOf left old new) (sym is)
      (fault_gone left old new f result (subst (λ (e : HeaderError). IfSome left (λ input. AnswersOf input limit (Err e))) same stops) all)

  pub refused_store : (bytes : List ℕ) (old new : Option (List ℕ)) (f : FileFault) (result : Result (Unit {0}) SendError) (answer : Answer) → ReadsHeader bytes limit (Err (refusals.Fault f))
      → SendsAll old new (fault_text f) result → answer ≡ answer_of result Refused → Gone (IsListedText bytes limit style) old new answer
  refused_store bytes old new (of.Header f) result answer stops all is = subst (Gone (IsListedText bytes limit style) old new) (sym is) (fault_gone (Some bytes) old new f result stops all)
  refused_store bytes old new (of.Layout f) result answer stops all is = absurd stops
