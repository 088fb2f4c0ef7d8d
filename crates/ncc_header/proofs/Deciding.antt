-- The one answer about an input.
use Rattle.std.proofs.Common.{◌≡◌, ◌≢◌, ℕ, List, ◌++◌, take, drop, Result, Ok, Err, refl, ap, subst, ◌∙◌, append_assoc, inl, inr}
use Rattle.std.proofs.lemmas.List.{take-append-drop}
use Rattle.ncc_header.specs.declared.fault.Fault.{Fault}
use Rattle.ncc_header.specs.declared.fault.FaultKind.TheVariants.{EndsEarly}
use Rattle.ncc_header.specs.declared.fault.HeaderError.{HeaderError}
use Rattle.ncc_header.specs.declared.fault.HeaderError.TheVariants as errors
use Rattle.ncc_schema.specs.declared.schema.Header.{Header}
use Rattle.ncc_header.specs.declared.state.Fed.{Fed}
use Rattle.ncc_header.specs.declared.state.Fed.TheVariants.{More, Done}
use Rattle.ncc_header.specs.Answers.{Begins, Stops, Answers, OrMemory}
use Rattle.ncc_header.specs.State.{IsWhole, IsSettled, FailedOn, Feeds, front_taken}
use Rattle.ncc_header.proofs.HeaderLaws.{apart, one_begins, one_fault, header_stop_stays, whole_begins}

abbrev answer : Result Header HeaderError → Result Header HeaderError
answer r = r

pub header_or_memory : (input : List ℕ) (limit : ℕ) (result : Result Header HeaderError) → Answers input limit result → (h : Header) → Begins input limit h → OrMemory result (Ok h)
header_or_memory input limit (Ok k) a h b = inl (ap (λ (x : Header). answer (Ok x)) (one_begins input limit k h a b))
header_or_memory input limit (Err (errors.Fault f)) a h b = absurd (apart input limit h f b a)
header_or_memory input limit (Err errors.Device) a h b = absurd a
header_or_memory input limit (Err errors.Memory) a h b = inr refl

pub fault_or_memory : (input : List ℕ) (limit : ℕ) (result : Result Header HeaderError) → Answers input limit result → (f : Fault) → Stops input limit f → OrMemory result (Err (errors.Fault f))
fault_or_memory input limit (Ok h) a f s = absurd (apart input limit h f a s)
fault_or_memory input limit (Err (errors.Fault g)) a f s = inl (ap (λ (x : Fault). answer (Err (errors.Fault x))) (one_fault input limit g f a s))
fault_or_memory input limit (Err errors.Device) a f s = absurd a
fault_or_memory input limit (Err errors.Memory) a f s = inr refl

-- a header at the front of what comes first is at the front of the whole
pub begins_before : (first more : List ℕ) (limit : ℕ) (h : Header) → Begins first limit h → Begins (first ++ more) limit h
begins_before first more limit h b = record {
  front = b.front;
  rest = b.rest ++ more;
  joined = ap (λ (x : List ℕ). x ++ more) b.joined ∙ append_assoc b.front b.rest more;
  is_header = b.is_header;
  begins = b.begins;
  marks = b.marks;
  long = b.long;
  within = b.within;
}

-- what is answered of a whole header is answered of it and all that follows
pub whole_answers : (whole more : List ℕ) (limit : ℕ) (result : Result Header HeaderError) → IsWhole whole limit → Answers whole limit result → Answers (whole ++ more) limit result
whole_answers whole more limit (Ok h) w a = begins_before whole more limit h a
whole_answers whole more limit (Err (errors.Fault f)) w a = let b = whole_begins whole limit w.0 w.1 w.2 w.3 in absurd (apart whole limit b.0 f b.1 a)
whole_answers whole more limit (Err errors.Device) w a = a
whole_answers whole more limit (Err errors.Memory) w a = tt

-- what is answered of bytes that are settled is answered of them and all that follows
pub settled_answers : (taken more : List ℕ) (limit : ℕ) (result : Result Header HeaderError) → IsSettled taken limit → Answers taken limit result → Answers (taken ++ more) limit result
settled_answers taken more limit result (inl whole) a = whole_answers taken more limit result whole a
settled_answers taken more limit (Ok h) (inr stop) a = absurd (apart taken limit h stop.0 a stop.1.0)
settled_answers taken more limit (Err (errors.Fault f)) (inr stop) a =
    let same : stop.0 ≡ f = one_fault taken limit stop.0 f stop.1.0 a in
    header_stop_stays taken more limit f a (subst (λ (g : Fault). g.kind ≢ EndsEarly) same stop.1.1)
settled_answers taken more limit (Err errors.Device) (inr stop) a = a
settled_answers taken more limit (Err errors.Memory) (inr stop) a = tt

-- what is answered of the bytes that were taken is answered of the whole piece
pub fed_answers : (taken piece : List ℕ) (limit : ℕ) (fed : Fed) (result : Result Header HeaderError) → Feeds taken piece limit (Ok fed) → Answers (taken ++ front_taken (Ok fed) piece) limit result → Answers (taken ++ piece) limit result
fed_answers taken piece limit More result f a = a
fed_answers taken piece limit (Done used) result f a =
    subst (λ (input : List ℕ). Answers input limit result) (append_assoc taken (take used piece) (drop used piece) ∙ ap (λ (x : List ℕ). taken ++ x) (take-append-drop used piece))
    (whole_answers (taken ++ take used piece) (drop used piece) limit result f.1 a)

pub failed_answers : (piece : List ℕ) (limit : ℕ) (e : HeaderError) → FailedOn piece limit e → Answers piece limit (Err e)
failed_answers piece limit (errors.Fault f) h = h.0
failed_answers piece limit errors.Device h = h
failed_answers piece limit errors.Memory h = tt
