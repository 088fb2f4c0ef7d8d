-- Reading a header from a source by turns.
use Rattle.std.proofs.Common.{◌≡◌, ℕ, ◌+◌, ◌≤◌, ◌<◌, List, [], ◌++◌, length, take, drop, Option, Some, None, Result, Ok, Err, refl, sym, ap, ap₂, subst, ◌∙◌, inl, inr, append_assoc, append-nil, arith}
use Rattle.std.specs.Prelude.{IfSome, IfOk}
use Rattle.std.specs.Io.KnownBytes.{IsAtEnd}
use Rattle.std.proofs.lemmas.Bool.{cases_lt}
use Rattle.std.proofs.lemmas.List.{length-append, length-take-le, take_all, drop_at}
use Rattle.std.proofs.lemmas.Result.{IfOk-weaker}
use Rattle.ncc_header.specs.declared.decoder.Decoder.{Decoder}
use Rattle.ncc_header.specs.declared.fault.HeaderError.{HeaderError}
use Rattle.ncc_header.specs.declared.fault.HeaderError.TheVariants as errors
use Rattle.ncc_schema.specs.declared.schema.Header.{Header}
use Rattle.ncc_header.specs.declared.state.Fed.{Fed}
use Rattle.ncc_header.specs.declared.state.Fed.TheVariants.{More, Done}
use Rattle.ncc_schema.specs.Device.{AsksFew, Loses, LosesAtMost}
use Rattle.ncc_header.specs.Answers.{Answers, AnswersOf, CountsAs, IsLeft}
use Rattle.ncc_header.specs.Decoder.{Took, limit_of}
use Rattle.ncc_header.specs.FromSource.{HasFed, FailsFeeding, HasRead, IsOver}
use Rattle.ncc_header.specs.State.{FailedOn, Feeds, IsWhole, front_taken}
use Rattle.ncc_header.proofs.Deciding.{settled_answers}
use Rattle.ncc_header.proofs.HeaderLaws.{header_stop_stays}

-- ---- bytes that are lost by turns

loses_both : (old mid new : Option (List ℕ)) (a b : List ℕ) → Loses old mid a → Loses mid new b → Loses old new (a ++ b)
loses_both None mid new a b p q = tt
loses_both (Some xs) mid new a b p q =
    let r : Loses (Some p.0) new b = subst (λ (m : Option (List ℕ)). Loses m new b) p.1 q in
    (r.0, r.1, p.2 ∙ ap (λ (z : List ℕ). a ++ z) r.2 ∙ sym (append_assoc a b r.0))

-- ---- so far

-- a piece that isn't longer than what is surely still to come is taken whole
all_used : (bytes piece : List ℕ) (limit room : ℕ) (fed : Fed) → Feeds bytes piece limit (Ok fed) → length piece ≤ room → ((more : List ℕ) → IsWhole (bytes ++ more) limit → room ≤ length more) → front_taken (Ok fed) piece ≡ piece
all_used bytes piece limit room More f few fewest = refl
all_used bytes piece limit room (Done used) f few fewest =
    elim (cases_lt used (length piece)) [
      | inl short ↦ absurd (omega (arith, short, few, length-take-le used piece f.0, fewest (take used piece) f.1))
      | inr all ↦ take_all used piece all
    ]

pub has_read_none : (old : Option (List ℕ)) (d : Decoder) (limit : ℕ) → Took d [] → limit_of d ≡ limit → HasRead old old d limit 0
has_read_none None d limit took is = record { bytes = []; lost = tt; took = took; limit_is = is; long = refl }
has_read_none (Some xs) d limit took is = record { bytes = []; lost = (xs, refl, refl); took = took; limit_is = is; long = refl }

-- where no more came than was surely still to come, all of it was taken
pub has_read_more : (old mid new : Option (List ℕ)) (d e : Decoder) (limit taken room n : ℕ) → HasRead old mid d limit taken → HasFed mid new d e room n → ((bytes more : List ℕ) → Took d bytes → IsWhole (bytes ++ more) (limit_of d) → room ≤ length more) → HasRead old new e limit (taken + n)
has_read_more old mid new d e limit taken room n r f wanted =
    let all : front_taken (Ok f.fed) f.piece ≡ f.piece = all_used r.bytes f.piece (limit_of d) room f.fed (f.feeds r.bytes r.took) (omega (arith, f.long, f.few)) (λ more. wanted r.bytes more r.took) in
    record {
      bytes = r.bytes ++ f.piece;
      lost = loses_both old mid new r.bytes f.piece r.lost f.lost;
      took = subst (λ (x : List ℕ). Took e (r.bytes ++ x)) all (f.takes r.bytes r.took);
      limit_is = f.limit ∙ r.limit_is;
      long = omega (arith, length-append r.bytes f.piece, r.long, f.long);
    }

-- ---- answers

abbrev pub AnswersSource : Option (List ℕ) → (limit : ℕ) → Result Header HeaderError → Type 0
AnswersSource old limit result = IfSome old (λ input. AnswersOf input limit result)

answers_of : (input : List ℕ) (limit : ℕ) (result : Result Header HeaderError) → Answers input limit result → AnswersOf input limit result
answers_of input limit (Ok h) a = a
answers_of input limit (Err (errors.Fault f)) a = a
answers_of input limit (Err errors.Device) a = absurd a
answers_of input limit (Err errors.Memory) a = a

-- an answer about what was lost and whatever may follow is one about the source
answers_lost : (old new : Option (List ℕ)) (limit : ℕ) (bytes : List ℕ) (result : Result Header HeaderError) → Loses old new bytes → ((rest : List ℕ) → new ≡ Some rest → Answers (bytes ++ rest) limit result) → AnswersSource old limit result
answers_lost None new limit bytes result lost a = tt
answers_lost (Some input) new limit bytes result lost a = subst (λ (x : List ℕ). AnswersOf x limit result) (sym lost.2) (answers_of (bytes ++ lost.0) limit result (a lost.0 lost.1))

failed_more : (taken more : List ℕ) (limit : ℕ) (e : HeaderError) → FailedOn taken limit e → Answers (taken ++ more) limit (Err e)
failed_more taken more limit (errors.Fault f) h = header_stop_stays taken more limit f h.0 h.1
failed_more taken more limit errors.Device h = h
failed_more taken more limit errors.Memory h = tt

pub failed_source : (old mid new : Option (List ℕ)) (d : Decoder) (limit taken room : ℕ) (e : HeaderError) → HasRead old mid d limit taken → FailsFeeding mid new d room e → AnswersSource old limit (Err e)
failed_source None mid new d limit taken room e r f = tt
failed_source (Some input) mid new d limit taken room e r (inl is) = subst (λ (x : HeaderError). AnswersOf input limit (Err x)) (sym is.0) tt
failed_source (Some input) mid new d limit taken room e r (inr f) =
    let h : FailedOn (r.bytes ++ f.piece) limit e = subst (λ (l : ℕ). FailedOn (r.bytes ++ f.piece) l e) r.limit_is (f.failed r.bytes r.took) in
    answers_lost (Some input) new limit (r.bytes ++ f.piece) (Err e) (loses_both (Some input) mid new r.bytes f.piece r.lost f.lost) (λ rest is. failed_more (r.bytes ++ f.piece) rest limit e h)

-- no more was lost than the limit
pub read_most : (old now : Option (List ℕ)) (d : Decoder) (limit taken : ℕ) → HasRead old now d limit taken → taken ≤ limit → LosesAtMost old now limit
read_most old now d limit taken r few = (r.bytes, r.lost, omega (arith, r.long, few))

pub failed_most : (old mid new : Option (List ℕ)) (d : Decoder) (limit taken room : ℕ) (e : HeaderError) → HasRead old mid d limit taken → FailsFeeding mid new d room e → taken + room ≤ limit → LosesAtMost old new limit
failed_most old mid new d limit taken room e r (inl is) few =
    (r.bytes ++ [], loses_both old mid new r.bytes [] r.lost is.1, omega (arith, length-append {A = ℕ} r.bytes [], r.long, few))
failed_most old mid new d limit taken room e r (inr f) few =
    (r.bytes ++ f.piece, loses_both old mid new r.bytes f.piece r.lost f.lost, omega (arith, length-append r.bytes f.piece, r.long, f.few, few))

-- each call took a byte, but the last
pub read_few : (old now : Option (List ℕ)) (d : Decoder) (limit taken before after : ℕ) → HasRead old now d limit taken → after ≤ before + taken + 1 → AsksFew old now before after
read_few old now d limit taken before after r few = (r.bytes, r.lost, omega (arith, r.long, few))

pub failed_few : (old mid new : Option (List ℕ)) (d : Decoder) (limit taken room : ℕ) (e : HeaderError) (before after : ℕ) → HasRead old mid d limit taken → FailsFeeding mid new d room e → after ≤ before + taken + 1 → AsksFew old new before after
failed_few old mid new d limit taken room e before after r (inl is) few =
    (r.bytes ++ [], loses_both old mid new r.bytes [] r.lost is.1, omega (arith, length-append {A = ℕ} r.bytes [], r.long, few))
failed_few old mid new d limit taken room e before after r (inr f) few =
    (r.bytes ++ f.piece, loses_both old mid new r.bytes f.piece r.lost f.lost, omega (arith, length-append r.bytes f.piece, r.long, few))

-- eight bytes need no memory
pub failed_memory : (old mid new : Option (List ℕ)) (d : Decoder) (limit taken room : ℕ) (e : HeaderError) → HasRead old mid d limit taken → FailsFeeding mid new d room e → e ≡ errors.Memory → IfSome old (λ input. 8 < length input)
failed_memory None mid new d limit taken room e r f is = tt
failed_memory (Some input) mid new d limit taken room e r (inl failed) is = absurd (device_or_memory (sym failed.0 ∙ is))
  where
    device_or_memory : errors.Device ≡ errors.Memory → ⊥
    device_or_memory same = cc
failed_memory (Some input) mid new d limit taken room e r (inr f) is =
    let lost = loses_both (Some input) mid new r.bytes f.piece r.lost f.lost in
    omega (arith, ap length lost.2, length-append (r.bytes ++ f.piece) lost.0, length-append r.bytes f.piece, f.memory is r.bytes r.took)

-- ---- what is wanted

some_nil : (rest : List ℕ) (now : Option (List ℕ)) → now ≡ Some rest → IsAtEnd now → rest ≡ []
some_nil rest now is end = let e : IsAtEnd (Some rest) = subst IsAtEnd is end in e

pub final_source : (old now : Option (List ℕ)) (d : Decoder) (limit taken : ℕ) (result : Result Header HeaderError) → HasRead old now d limit taken → IsOver now d limit → ((bytes : List ℕ) → Took d bytes → Answers bytes (limit_of d) result) → AnswersSource old limit result
final_source old now d limit taken result r over answers = answers_lost old now limit r.bytes result r.lost (go over)
  where
    a : Answers r.bytes limit result
    a = subst (λ (l : ℕ). Answers r.bytes l result) r.limit_is (answers r.bytes r.took)

    go : IsOver now d limit → (rest : List ℕ) → now ≡ Some rest → Answers (r.bytes ++ rest) limit result
    go (inl end) rest is = subst (λ (x : List ℕ). Answers x limit result) (sym (ap (λ (x : List ℕ). r.bytes ++ x) (some_nil rest now is end) ∙ append-nil r.bytes)) a
    go (inr settled) rest is = settled_answers r.bytes rest limit result (settled r.bytes r.took) a

-- what is left of the source where the header is all that was read
left_behind : (old now : Option (List ℕ)) (bytes : List ℕ) (result : Result Header HeaderError) → Loses old now bytes → IfOk result (λ h. h.length ≡ length bytes) → IfSome old (λ input. IfOk result (λ h. IsLeft now input h))
left_behind None now bytes result lost whole = tt
left_behind (Some input) now bytes result lost whole =
    IfOk-weaker result (λ h. h.length ≡ length bytes) (λ h. IsLeft now input h)
    (λ h long. lost.1 ∙ ap (λ (x : List ℕ). Some x) (sym (ap₂ (λ (n : ℕ) (x : List ℕ). drop n x) long lost.2 ∙ drop_at bytes lost.0 (length bytes) refl))) whole

pub final_left : (old now : Option (List ℕ)) (d : Decoder) (limit taken : ℕ) (result : Result Header HeaderError) → HasRead old now d limit taken → ((bytes : List ℕ) → Took d bytes → IfOk result (λ h. h.length ≡ length bytes)) → IfSome old (λ input. IfOk result (λ h. IsLeft now input h))
final_left old now d limit taken result r whole = left_behind old now r.bytes result r.lost (whole r.bytes r.took)

-- what is wanted lies within the limit
pub wanted_within : (d : Decoder) (old now : Option (List ℕ)) (limit taken wanted : ℕ) → HasRead old now d limit taken → ((bytes : List ℕ) → Took d bytes → 0 < wanted → length bytes + wanted ≤ limit_of d) → 0 < wanted → taken + wanted ≤ limit
wanted_within d old now limit taken wanted r within some = omega (arith, within r.bytes r.took some, r.long, r.limit_is)

-- ---- failures

-- a fault of the bytes is none of the source
pub counts_failed : (T : Type 0) (old new : ℕ) (bytes : List ℕ) (limit : ℕ) (e : HeaderError) → FailedOn bytes limit e → new ≡ old → CountsAs {T = T} old new (Err e)
counts_failed T old new bytes limit (errors.Fault f) h same = same
counts_failed T old new bytes limit errors.Device h same = absurd h
counts_failed T old new bytes limit errors.Memory h same = same

-- an error says nothing of what is left
pub nothing_left : (old now : Option (List ℕ)) (e : HeaderError) → IfSome old (λ input. IfOk {T = Header} (Err e) (λ h. IsLeft now input h))
nothing_left None now e = tt
nothing_left (Some input) now e = tt
