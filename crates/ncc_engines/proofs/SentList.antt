-- What `list` sent is the text of its input, or a front of it.
use Rattle.std.proofs.Common.{◌≡◌, ℕ, List, Option, Some, None, Result, Ok, Err, refl, sym, ap, subst, ◌∙◌, ◌⊎◌, inl, inr}
use Rattle.std.specs.Prelude.{IfSome}
use Rattle.ncc_header.specs.declared.fault.Fault.{Fault}
use Rattle.ncc_header.specs.declared.fault.HeaderError.{HeaderError}
use Rattle.ncc_header.specs.declared.fault.HeaderError.TheVariants as errors
use Rattle.ncc_schema.specs.declared.schema.Header.{Header}
use Rattle.ncc_header.specs.Answers.{Begins, Stops, AnswersOf}
use Rattle.ncc_lines.specs.declared.send_error.SendError.{SendError}
use Rattle.ncc_lines.specs.Texts.{list_text, fault_line}
use Rattle.ncc_check.specs.declared.fault.FileFault.{FileFault}
use Rattle.ncc_check.specs.declared.fault.FileFault.TheVariants as of
use Rattle.ncc_check.specs.declared.fault.Refusal.TheVariants as refusals
use Rattle.ncc_check.specs.FromStore.{ReadsHeader}
use Rattle.ncc_lines.specs.Verdicts.{file_fault_line}
use Rattle.ncc_lines.specs.Sends.{SendsAll}
use Rattle.ncc_lines.specs.declared.style.FloatStyle.{FloatStyle}
use Rattle.ncc_answers.specs.declared.answer.Answer.{Answer}
use Rattle.ncc_answers.specs.declared.answer.Answer.TheVariants.{Passed, Refused, Device, Memory}
use Rattle.ncc_answers.specs.Answers.{answer_of}
use Rattle.ncc_engines.specs.Listing.{IsListOf, IsFaultOf, IsListText}
use Rattle.ncc_answers.proofs.Sent.{Gone, OneText, sent}

-- the laws of headers that make the text of an input one
pub record Laws : Type 0 where
  pub apart : (input : List ℕ) (limit : ℕ) (h : Header) (f : Fault) → Begins input limit h → Stops input limit f → ⊥
  pub one_header : (input : List ℕ) (limit : ℕ) (h k : Header) → Begins input limit h → Begins input limit k → h ≡ k
  pub one_stop : (input : List ℕ) (limit : ℕ) (f g : Fault) → Stops input limit f → Stops input limit g → f ≡ g

either : (style : FloatStyle) (input : List ℕ) (limit : ℕ) (answer : Answer) (text : List ℕ) → IsListText input limit style answer text → IsListOf input limit style text ⊎ IsFaultOf input limit text
either style input limit Passed text is = inl is
either style input limit Refused text is = inr is
either style input limit Device text is = absurd is
either style input limit Memory text is = absurd is

same_text : Laws → (style : FloatStyle) (input : List ℕ) (limit : ℕ) (t u : List ℕ) → IsListOf input limit style t ⊎ IsFaultOf input limit t → IsListOf input limit style u ⊎ IsFaultOf input limit u → t ≡ u
same_text laws style input limit t u (inl a) (inl b) = a.2 ∙ ap (list_text style) (laws.one_header input limit a.0 b.0 a.1 b.1) ∙ sym b.2
same_text laws style input limit t u (inl a) (inr b) = absurd (laws.apart input limit a.0 b.0 a.1 b.1)
same_text laws style input limit t u (inr a) (inl b) = absurd (laws.apart input limit b.0 a.0 b.1 a.1)
same_text laws style input limit t u (inr a) (inr b) = a.2 ∙ ap fault_line (laws.one_stop input limit a.0 b.0 a.1 b.1) ∙ sym b.2

one_text : Laws → (style : FloatStyle) (input : List ℕ) (limit : ℕ) → OneText (IsListText input limit style)
one_text laws style input limit a b t u is other = same_text laws style input limit t u (either style input limit a t is) (either style input limit b u other)

-- what went out of the text of an input, if there is one
abbrev pub GoneOf : FloatStyle → (left : Option (List ℕ)) (limit : ℕ) (old new : Option (List ℕ)) → Answer → Type 0
GoneOf style left limit old new answer = IfSome left (λ input. Gone (IsListText input limit style) old new answer)

list_gone : Laws → (style : FloatStyle) (left : Option (List ℕ)) (limit : ℕ) (old new : Option (List ℕ)) (h : Header) (result : Result (Unit {0}) SendError) → IfSome left (λ input. AnswersOf input limit (Ok h)) → SendsAll old new (list_text style h) result → GoneOf style left limit old new (answer_of result Passed)
list_gone laws style None limit old new h result a s = tt
list_gone laws style (Some input) limit old new h result a s = sent (IsListText input limit style) (one_text laws style input limit) old new (list_text style h) Passed result (h, a, refl) (h, a, refl) s

pub sent_list : Laws → (style : FloatStyle) (left : Option (List ℕ)) (limit : ℕ) (old new : Option (List ℕ)) (h : Header) (result : Result (Unit {0}) SendError) (answer : Answer) → IfSome left (λ input. AnswersOf input limit (Ok h)) → SendsAll old new (list_text style h) result → answer ≡ answer_of result Passed → GoneOf style left limit old new answer
sent_list laws style left limit old new h result answer a s e = subst (λ (x : Answer). GoneOf style left limit old new x) (sym e) (list_gone laws style left limit old new h result a s)

fault_gone : Laws → (style : FloatStyle) (left : Option (List ℕ)) (limit : ℕ) (old new : Option (List ℕ)) (f : Fault) (result : Result (Unit {0}) SendError) → IfSome left (λ input. AnswersOf input limit (Err (errors.Fault f))) → SendsAll old new (fault_line f) result → GoneOf style left limit old new (answer_of result Refused)
fault_gone laws style None limit old new f result a s = tt
fault_gone laws style (Some input) limit old new f result a s = sent (IsListText input limit style) (one_text laws style input limit) old new (fault_line f) Refused result (f, a, refl) (f, a, refl) s

pub sent_fault : Laws → (style : FloatStyle) (left : Option (List ℕ)) (limit : ℕ) (old new : Option (List ℕ)) (f : Fault) (error : HeaderError) (result : Result (Unit {0}) SendError) (answer : Answer) → error ≡ errors.Fault f → IfSome left (λ input. AnswersOf input limit (Err error)) → SendsAll old new (fault_line f) result → answer ≡ answer_of result Refused → GoneOf style left limit old new answer
sent_fault laws style left limit old new f error result answer is a s e =
    subst (λ (x : Answer). GoneOf style left limit old new x) (sym e)
    (fault_gone laws style left limit old new f result (subst (λ (x : HeaderError). IfSome left (λ input. AnswersOf input limit (Err x))) is a) s)

-- ---- of the bytes of a store

pub sent_store : Laws → (style : FloatStyle) (bytes : List ℕ) (limit : ℕ) (old new : Option (List ℕ)) (h : Header) (result : Result (Unit {0}) SendError) (answer : Answer) → ReadsHeader bytes limit (Ok h)
    → SendsAll old new (list_text style h) result → answer ≡ answer_of result Passed → Gone (IsListText bytes limit style) old new answer
sent_store laws style bytes limit old new h result answer a s e = sent_list laws style (Some bytes) limit old new h result answer a s e

store_fault : Laws → (style : FloatStyle) (bytes : List ℕ) (limit : ℕ) (old new : Option (List ℕ)) (f : FileFault) (result : Result (Unit {0}) SendError) → ReadsHeader bytes limit (Err (refusals.Fault f))
    → SendsAll old new (file_fault_line f) result → Gone (IsListText bytes limit style) old new (answer_of result Refused)
store_fault laws style bytes limit old new (of.Header f) result a s = fault_gone laws style (Some bytes) limit old new f result a s
store_fault laws style bytes limit old new (of.Layout f) result a s = absurd a

pub sent_store_fault : Laws → (style : FloatStyle) (bytes : List ℕ) (limit : ℕ) (old new : Option (List ℕ)) (f : FileFault) (result : Result (Unit {0}) SendError) (answer : Answer)
    → ReadsHeader bytes limit (Err (refusals.Fault f)) → SendsAll old new (file_fault_line f) result → answer ≡ answer_of result Refused → Gone (IsListText bytes limit style) old new answer
sent_store_fault laws style bytes limit old new f result answer a s e =
    subst (λ (x : Answer). Gone (IsListText bytes limit style) old new x) (sym e) (store_fault laws style bytes limit old new f result a s)
