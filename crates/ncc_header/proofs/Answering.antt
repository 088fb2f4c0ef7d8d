-- Each piece has one answer.
use Rattle.std.proofs.Common.{◌≡◌, ℕ, ◌≤◌, List, ◌++◌, length, take, drop, Option, Some, None, Result, Ok, Err, sym, ap, refl, subst, ◌∙◌, inl, inr, append_assoc, arith}
use Rattle.std.proofs.lemmas.List.{length-append, length-take-le, take-append-drop}
use Rattle.ncc_header.specs.declared.fault.Fault.{Fault}
use Rattle.ncc_header.specs.declared.fault.HeaderError.{HeaderError}
use Rattle.ncc_header.specs.declared.fault.HeaderError.TheVariants as errors
use Rattle.ncc_header.specs.declared.state.Fed.{Fed}
use Rattle.ncc_header.specs.declared.state.Fed.TheVariants.{More, Done}
use Rattle.std.specs.Prelude.{true, false, is_some}
use Rattle.ncc_header.specs.declared.reading.Reading.{Reading}
use Rattle.ncc_header.specs.Answers.{Stops}
use Rattle.ncc_header.specs.Steps.{size_of}
use Rattle.ncc_header.specs.Reading.{next_of}
use Rattle.ncc_header.specs.State.{HasTaken, cut_at, IsWhole, StopsForGood, FailedOn, Feeds, FedOrMemory}
use Rattle.ncc_header.proofs.Deciding.{begins_before}
use Rattle.ncc_header.proofs.Feeding.{cut_stops}
use Rattle.ncc_header.proofs.HeaderLaws.{apart, one_fault, one_header, whole_begins}

-- bytes that are a header don't stop, whatever follows
pub whole_goes_on : (bytes more : List ℕ) (limit : ℕ) (f : Fault) → IsWhole bytes limit → Stops (bytes ++ more) limit f → ⊥
whole_goes_on bytes more limit f w stop =
    let b = whole_begins bytes limit w.0 w.1 w.2 w.3 in
    apart (bytes ++ more) limit b.0 f (begins_before bytes more limit b.0 b.1) stop

whole_and_rest : (taken piece : List ℕ) (n : ℕ) → (taken ++ take n piece) ++ drop n piece ≡ taken ++ piece
whole_and_rest taken piece n = append_assoc taken (take n piece) (drop n piece) ∙ ap (λ (x : List ℕ). taken ++ x) (take-append-drop n piece)

-- one front of a piece makes the header whole
pub one_end : (taken piece : List ℕ) (limit m n : ℕ) → m ≤ length piece → n ≤ length piece → IsWhole (taken ++ take m piece) limit → IsWhole (taken ++ take n piece) limit → m ≡ n
one_end taken piece limit m n m_in n_in v w =
    let one = one_header v.0 w.0 v.1 w.1 (taken ++ take m piece) (taken ++ take n piece) (drop m piece) (drop n piece) v.2 w.2 (whole_and_rest taken piece m ∙ sym (whole_and_rest taken piece n)) in
    omega (arith, ap length one.0, length-append taken (take m piece), length-append taken (take n piece), length-take-le m piece m_in, length-take-le n piece n_in)

abbrev answer : Result Fed HeaderError → Result Fed HeaderError
answer r = r

pub done_or_memory : (taken piece : List ℕ) (limit used : ℕ) (r : Result Fed HeaderError) → Feeds taken piece limit r → used ≤ length piece → IsWhole (taken ++ take used piece) limit → FedOrMemory r (Ok (Done used))
done_or_memory taken piece limit used (Ok More) a few w =
    absurd (whole_goes_on (taken ++ take used piece) (drop used piece) limit a.0 w (subst (λ (input : List ℕ). Stops input limit a.0) (sym (whole_and_rest taken piece used)) a.1))
done_or_memory taken piece limit used (Ok (Done n)) a few w =
    inl (ap (λ (m : ℕ). answer (Ok (Done m))) (one_end taken piece limit n used a.0 few a.1 w))
done_or_memory taken piece limit used (Err (errors.Fault f)) a few w =
    absurd (whole_goes_on (taken ++ take used piece) (drop used piece) limit f w (subst (λ (input : List ℕ). Stops input limit f) (sym (whole_and_rest taken piece used)) a.0))
done_or_memory taken piece limit used (Err errors.Device) a few w = absurd a
done_or_memory taken piece limit used (Err errors.Memory) a few w = inr refl

pub fault_or_memory : (taken piece : List ℕ) (limit : ℕ) (f : Fault) (r : Result Fed HeaderError) → Feeds taken piece limit r → StopsForGood (taken ++ piece) limit f → FedOrMemory r (Err (errors.Fault f))
fault_or_memory taken piece limit f (Ok More) a s =
    let same : a.0 ≡ f = one_fault (taken ++ piece) limit a.0 f a.1 s.0 in
    absurd (s.1 (sym (ap (λ (g : Fault). g.kind) same) ∙ a.2))
fault_or_memory taken piece limit f (Ok (Done n)) a s =
    absurd (whole_goes_on (taken ++ take n piece) (drop n piece) limit f a.1 (subst (λ (input : List ℕ). Stops input limit f) (sym (whole_and_rest taken piece n)) s.0))
fault_or_memory taken piece limit f (Err (errors.Fault g)) a s =
    inl (ap (λ (x : Fault). answer (Err (errors.Fault x))) (one_fault (taken ++ piece) limit g f a.0 s.0))
fault_or_memory taken piece limit f (Err errors.Device) a s = absurd a
fault_or_memory taken piece limit f (Err errors.Memory) a s = inr refl

-- where a field is left, what was taken isn't a whole header
pub not_whole : (r : Reading) (taken : List ℕ) (n : ℕ) → HasTaken r taken → size_of (next_of r) ≡ Some n → IsWhole taken r.limit → ⊥
not_whole r taken n t is w =
    let b = whole_begins taken r.limit w.0 w.1 w.2 w.3 in
    apart taken r.limit b.0 (cut_at r.limit r.at n) b.1 (cut_stops r taken n t is)

pub some_size : (o : Option ℕ) → is_some o ≡ true → (n : ℕ) × (o ≡ Some n)
some_size None e = absurd cc
some_size (Some n) e = (n, refl)

pub no_size : (o : Option ℕ) → is_some o ≡ false → o ≡ None
no_size None e = refl
no_size (Some n) e = absurd cc

-- bytes on which a decoder failed aren't a whole header
pub failed_not_whole : (taken : List ℕ) (limit : ℕ) (e : HeaderError) → FailedOn taken limit e → (e ≡ errors.Memory → ⊥) → IsWhole taken limit → ⊥
failed_not_whole taken limit (errors.Fault f) h fresh w = let b = whole_begins taken limit w.0 w.1 w.2 w.3 in apart taken limit b.0 f b.1 h.0
failed_not_whole taken limit errors.Device h fresh w = h
failed_not_whole taken limit errors.Memory h fresh w = fresh refl
