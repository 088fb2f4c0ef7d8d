-- Reading a header from a store, piece by piece.
use Rattle.std.proofs.Common.{◌≡◌, ◌≢◌, ◌⊎◌, ℕ, ◌+◌, ◌*◌, ◌-◌, ◌%◌, ◌<◌, ◌≤◌, min, List, [], ◌++◌, length, take, drop, Ok, Err, sym, ap, ap₂, subst, ◌∙◌, inl, inr, append_assoc, arith, refl}
use Rattle.std.specs.Prelude.{Bool, IsTrue}
use Rattle.std.proofs.lemmas.Bool.{cases_lt}
use Rattle.std.proofs.lemmas.List.{append-nil, length-take-le, take-append-drop, take-take, drop_all}
use Rattle.std.proofs.Math.Seq.{take-add}
use Rattle.ncc_header.specs.declared.decoder.Decoder.{Decoder}
use Rattle.ncc_header.specs.declared.fault.Fault.{Fault as HeaderFault}
use Rattle.ncc_header.specs.declared.fault.FaultKind.TheVariants.{EndsEarly}
use Rattle.ncc_header.specs.declared.fault.HeaderError.{HeaderError}
use Rattle.ncc_header.specs.declared.fault.HeaderError.TheVariants as errors
use Rattle.ncc_header.specs.declared.state.Fed.{Fed}
use Rattle.ncc_header.specs.declared.state.Fed.TheVariants.{More, Done}
use Rattle.ncc_schema.specs.declared.schema.Header.{Header}
use Rattle.ncc_schema.specs.declared.schema.Schema.{Schema}
use Rattle.ncc_schema.specs.Schema.{Place, places_of}
use Rattle.ncc_schema.specs.Header.{IsHeader}
use Rattle.ncc_header.specs.Answers.{Begins, Stops, Answers}
use Rattle.ncc_header.specs.Decoder.{Took, limit_of, HasFailed}
use Rattle.ncc_header.specs.State.{FailedOn, Feeds, GoesOn, IsWhole, StopsForGood, front_taken}
use Rattle.ncc_check.specs.declared.fault.FileFault.TheVariants.{Header as OfHeader, Layout as OfLayout}
use Rattle.ncc_check.specs.declared.fault.Refusal.{Refusal}
use Rattle.ncc_check.specs.declared.fault.Refusal.TheVariants.{Fault, Device, Memory}
use Rattle.ncc_check.specs.Refusals.{refusal_of}
use Rattle.ncc_check.specs.FromStore.{reads_for, RefusedOn, ReadsHeader, FedPiece, FailsPiece, IsEnough, HasEnough, SettledBy}

pub refused_on : (bytes : List ℕ) (limit : ℕ) (e : HeaderError) (r : Refusal) → r ≡ refusal_of e → FailedOn bytes limit e → RefusedOn bytes limit r
refused_on bytes limit (errors.Fault f) r is failed = subst (RefusedOn bytes limit) (sym is) failed
refused_on bytes limit errors.Device r is failed = absurd failed
refused_on bytes limit errors.Memory r is failed = subst (RefusedOn bytes limit) (sym is) tt

-- ---- memory

-- no other error is told as want of memory
memory_alone : (e : HeaderError) → refusal_of e ≡ Memory → e ≡ errors.Memory
memory_alone (errors.Fault f) is = absurd cc
memory_alone errors.Device is = absurd cc
memory_alone errors.Memory is = refl

-- eight bytes need none
pub failed_memory : (d : Decoder) (n : ℕ) (e : HeaderError) (r : Refusal) → r ≡ refusal_of e → r ≡ Memory → ¬ HasFailed d errors.Memory → (n ≤ 8 → e ≡ errors.Memory → HasFailed d errors.Memory) → 8 < n
failed_memory d n e r is memory fresh few = elim (cases_lt 8 n) [
  | inl past ↦ past
  | inr within ↦ absurd (fresh (few within (memory_alone e (sym is ∙ memory))))
]

pub never_memory : (d : Decoder) (e : HeaderError) (r : Refusal) → r ≡ refusal_of e → r ≡ Memory → ¬ HasFailed d errors.Memory → (e ≡ errors.Memory → HasFailed d errors.Memory) → ⊥
never_memory d e r is memory fresh failed = fresh (failed (memory_alone e (sym is ∙ memory)))

-- ---- by turns

-- a law of headers: a fault that stays
abbrev pub StopStays : Type 0
StopStays = (input more : List ℕ) (limit : ℕ) (f : HeaderFault) → Stops input limit f → f.kind ≢ EndsEarly → Stops (input ++ more) limit f

-- what was taken and the next piece
pub more_taken : (bytes taken piece : List ℕ) (at size : ℕ) → taken ≡ take at bytes → piece ≡ take size (drop at bytes) → taken ++ piece ≡ take (at + size) bytes
more_taken bytes taken piece at size so_far next = ap₂ (λ (x y : List ℕ). x ++ y) so_far next ∙ sym (take-add at size bytes)

pub front_and_rest : (bytes front : List ℕ) (n : ℕ) → front ≡ take n bytes → bytes ≡ front ++ drop n bytes
front_and_rest bytes front n is = sym (ap (λ (x : List ℕ). x ++ drop n bytes) is ∙ take-append-drop n bytes)

-- a refusal of a front is one of all
pub refused_all : StopStays → (bytes front rest : List ℕ) (limit : ℕ) (r : Refusal) → bytes ≡ front ++ rest → RefusedOn front limit r → ReadsHeader bytes limit (Err r)
refused_all stays bytes front rest limit (Fault (OfHeader f)) joined refused = subst (λ (x : List ℕ). Stops x limit f) (sym joined) (stays front rest limit f refused.0 refused.1)
refused_all stays bytes front rest limit (Fault (OfLayout f)) joined refused = absurd refused
refused_all stays bytes front rest limit Device joined refused = tt
refused_all stays bytes front rest limit Memory joined refused = tt

-- the whole piece was taken, where more is to come
pub took_all : (d e : Decoder) (taken piece : List ℕ) (fed : Fed) → fed ≡ More → FedPiece d e piece fed → Took d taken → Took e (taken ++ piece)
took_all d e taken piece fed is f t = subst (λ (x : Fed). Took e (taken ++ front_taken (Ok x) piece)) is (f.takes taken t)

pub took_some : (d e : Decoder) (taken piece : List ℕ) (fed : Fed) (used : ℕ) → fed ≡ Done used → FedPiece d e piece fed → Took d taken → Took e (taken ++ take used piece)
took_some d e taken piece fed used is f t = subst (λ (x : Fed). Took e (taken ++ front_taken (Ok x) piece)) is (f.takes taken t)

-- the header is whole
pub whole_enough : (d e : Decoder) (bytes taken piece : List ℕ) (limit at size used : ℕ) (fed : Fed) → fed ≡ Done used → FedPiece d e piece fed → Took d taken → limit_of d ≡ limit
    → taken ≡ take at bytes → piece ≡ take size (drop at bytes) → HasEnough bytes limit (taken ++ take used piece)
whole_enough d e bytes taken piece limit at size used fed is f t limit_is so_far next =
    let feeds : Feeds taken piece (limit_of d) (Ok (Done used)) = subst (λ (x : Fed). Feeds taken piece (limit_of d) (Ok x)) is (f.feeds taken t) in
    record {
      rest = drop used piece ++ drop (at + size) bytes;
      joined = front_and_rest bytes (taken ++ piece) (at + size) (more_taken bytes taken piece at size so_far next)
          ∙ ap (λ (x : List ℕ). (taken ++ x) ++ drop (at + size) bytes) (sym (take-append-drop used piece))
          ∙ ap (λ (x : List ℕ). x ++ drop (at + size) bytes) (sym (append_assoc taken (take used piece) (drop used piece)))
          ∙ append_assoc (taken ++ take used piece) (drop used piece) (drop (at + size) bytes);
      enough = inr (inr (subst (IsWhole (taken ++ take used piece)) limit_is feeds.1));
    }

-- all that may take part was taken
pub all_enough : (bytes taken : List ℕ) (limit end : ℕ) → end ≤ length bytes → taken ≡ take end bytes → (limit ≤ end) ⊎ (end ≡ length bytes) → HasEnough bytes limit taken
all_enough bytes taken limit end there is covers = record {
  rest = drop end bytes;
  joined = front_and_rest bytes taken end is;
  enough = enough_of covers;
}
  where
    enough_of : (limit ≤ end) ⊎ (end ≡ length bytes) → IsEnough taken (drop end bytes) limit
    enough_of (inl past) = inl (omega (arith, past, ap length is, length-take-le end bytes there))
    enough_of (inr all) = inr (inl (ap (λ (n : ℕ). drop n bytes) all ∙ drop_all (length bytes) bytes (omega arith)))

-- the bytes of a piece are those of the store that began
pub same_piece : (room size at : ℕ) (now old : List ℕ) → room ≡ size → now ≡ old → take room (drop at now) ≡ take size (drop at old)
same_piece room size at now old long same = ap₂ (λ (n : ℕ) (bytes : List ℕ). take n (drop at bytes)) long same

-- a piece that was refused is a fault of all
pub refused_piece : StopStays → (d : Decoder) (bytes taken there : List ℕ) (limit at size : ℕ) (r : Refusal) (told : Bool) → IsTrue told → taken ≡ take at bytes → there ≡ take size (drop at bytes)
    → Took d taken → limit_of d ≡ limit → FailsPiece told there d r → ReadsHeader bytes limit (Err r)
refused_piece stays d bytes taken there limit at size r told tells so_far next t limit_is (inl is) = subst (λ (x : Refusal). ReadsHeader bytes limit (Err x)) (sym is) tt
refused_piece stays d bytes taken there limit at size r told tells so_far next t limit_is (inr f) =
    let refused : RefusedOn (taken ++ f.0) limit r = subst (λ (l : ℕ). RefusedOn (taken ++ f.0) l r) limit_is (f.2 taken t) in
    refused_all stays bytes (taken ++ f.0) (drop (at + size) bytes) limit r (front_and_rest bytes (taken ++ f.0) (at + size) (more_taken bytes taken f.0 at size so_far (f.1 tells ∙ next))) refused

-- ---- the end

-- laws of headers
abbrev pub HeaderIsBegun : Type 0
HeaderIsBegun = (s : Schema) (places : List Place) (front rest : List ℕ) (limit : ℕ) → IsHeader s places front → length front ≤ limit → (h : Header) × Begins (front ++ rest) limit h × (h.schema ≡ s) × (places_of h.places ≡ places)

abbrev pub Apart : Type 0
Apart = (input : List ℕ) (limit : ℕ) (h : Header) (f : HeaderFault) → Begins input limit h → Stops input limit f → ⊥

abbrev pub LimitCovers : Type 0
LimitCovers = (input more : List ℕ) (limit : ℕ) (f : HeaderFault) → Stops input limit f → limit ≤ length input → Stops (input ++ more) limit f

pub begins_more : (front more : List ℕ) (limit : ℕ) (h : Header) → Begins front limit h → Begins (front ++ more) limit h
begins_more front more limit h b = record {
  front = b.front;
  rest = b.rest ++ more;
  joined = ap (λ (x : List ℕ). x ++ more) b.joined ∙ append_assoc b.front b.rest more;
  is_header = b.is_header;
  begins = b.begins;
  marks = b.marks;
  long = b.long;
  within = b.within;
}

-- the header of what was taken is that of all bytes
pub final_header : (bytes taken : List ℕ) (limit : ℕ) (h : Header) → HasEnough bytes limit taken → Answers taken limit (Ok h) → Begins bytes limit h
final_header bytes taken limit h enough b = subst (λ (x : List ℕ). Begins x limit h) (sym enough.joined) (begins_more taken enough.rest limit h b)

-- and so is its fault
final_fault : HeaderIsBegun → Apart → LimitCovers → (bytes taken : List ℕ) (limit : ℕ) (f : HeaderFault) → HasEnough bytes limit taken → Stops taken limit f → Stops bytes limit f
final_fault begun apart covers bytes taken limit f enough stop = subst (λ (x : List ℕ). Stops x limit f) (sym enough.joined) (stops_all enough.enough)
  where
    stops_all : IsEnough taken enough.rest limit → Stops (taken ++ enough.rest) limit f
    stops_all (inl past) = covers taken enough.rest limit f stop past
    stops_all (inr (inl none)) = subst (λ (x : List ℕ). Stops x limit f) (sym (ap (λ (x : List ℕ). taken ++ x) none ∙ append-nil taken)) stop
    stops_all (inr (inr whole)) =
        let b = begun whole.0 whole.1 taken [] limit whole.2 whole.3 in
        absurd (apart (taken ++ []) limit b.0 f b.1 (subst (λ (x : List ℕ). Stops x limit f) (sym (append-nil taken)) stop))

pub final_refusal : HeaderIsBegun → Apart → LimitCovers → (bytes taken : List ℕ) (limit : ℕ) (e : HeaderError) (r : Refusal) → r ≡ refusal_of e → HasEnough bytes limit taken → Answers taken limit (Err e) → ReadsHeader bytes limit (Err r)
final_refusal begun apart covers bytes taken limit (errors.Fault f) r is enough stop = subst (λ (x : Refusal). ReadsHeader bytes limit (Err x)) (sym is) (final_fault begun apart covers bytes taken limit f enough stop)
final_refusal begun apart covers bytes taken limit errors.Device r is enough stop = absurd stop
final_refusal begun apart covers bytes taken limit errors.Memory r is enough stop = subst (λ (x : Refusal). ReadsHeader bytes limit (Err x)) (sym is) tt

-- ---- calls

-- one read more, and the bytes up to its end
pub one_more_read : (at size end : ℕ) → (at % 65536 ≡ 0) ⊎ (at ≡ end) → at < end → size ≡ min (end - at) 65536 → reads_for at + 1 ≡ reads_for (at + size)
one_more_read at size end (inl whole) more is = omega (arith, whole, more, is)
one_more_read at size end (inr all) more is = absurd (omega (arith, all, more))

pub still_whole : (at size end : ℕ) → (at % 65536 ≡ 0) ⊎ (at ≡ end) → at < end → size ≡ min (end - at) 65536 → ((at + size) % 65536 ≡ 0) ⊎ (at + size ≡ end)
still_whole at size end (inr all) more is = absurd (omega (arith, all, more))
still_whole at size end (inl whole) more is = elim (cases_lt (end - at) 65536) [
  | inl last ↦ inr (omega (arith, is, last, more))
  | inr past ↦ inl (omega (arith, whole, is, past))
]

pub reads_to_end : (at end : ℕ) → (at % 65536 ≡ 0) ⊎ (at ≡ end) → at < end → reads_for at + 1 ≤ reads_for end
reads_to_end at end (inl whole) more = omega (arith, whole, more)
reads_to_end at end (inr all) more = absurd (omega (arith, all, more))

-- ---- no read is made of what a settled front would bring

abbrev pub OneStop : Type 0
OneStop = (input : List ℕ) (limit : ℕ) (f g : HeaderFault) → Stops input limit f → Stops input limit g → f ≡ g

abbrev IsTold : (front : List ℕ) (limit : ℕ) → Type 0
IsTold front limit = ((h : Header) × Begins front limit h) ⊎ ((f : HeaderFault) × StopsForGood front limit f)

-- where a front goes on, none before it is settled
pub unsettled : StopStays → Apart → OneStop → (bytes : List ℕ) (limit m at : ℕ) → m ≤ at → GoesOn (take at bytes) limit → IsTold (take m bytes) limit → ⊥
unsettled stays apart one bytes limit m at le goes settled = settled_is settled
  where
    rest : List ℕ
    rest = drop m (take at bytes)

    joined : take m bytes ++ rest ≡ take at bytes
    joined = ap (λ (x : List ℕ). x ++ rest) (sym (take-take m at bytes le)) ∙ take-append-drop m (take at bytes)

    stops : Stops (take m bytes ++ rest) limit goes.0
    stops = subst (λ (x : List ℕ). Stops x limit goes.0) (sym joined) goes.1

    settled_is : IsTold (take m bytes) limit → ⊥
    settled_is (inl header) = apart (take m bytes ++ rest) limit header.0 goes.0 (begins_more (take m bytes) rest limit header.0 header.1) stops
    settled_is (inr fault) =
        let same = one (take m bytes ++ rest) limit fault.0 goes.0 (stays (take m bytes) rest limit fault.0 fault.1.0 fault.1.1) stops in
        fault.1.1 (ap (λ (f : HeaderFault). f.kind) same ∙ goes.2)

-- one read more is among those that settle it
pub read_is_needed : StopStays → Apart → OneStop → (bytes : List ℕ) (limit at end n : ℕ) → (at % 65536 ≡ 0) ⊎ (at ≡ end) → at < end → (at ≡ 0) ⊎ GoesOn (take at bytes) limit
    → SettledBy bytes limit n → (reads_for at + 1 ≤ n) × (at + 65536 ≤ n * 65536)
read_is_needed stays apart one bytes limit at end n (inr all) more goes settled = absurd (omega (arith, all, more))
read_is_needed stays apart one bytes limit at end n (inl whole) more (inl first) settled = (omega (arith, first, settled.0), omega (arith, first, settled.0))
read_is_needed stays apart one bytes limit at end n (inl whole) more (inr goes) settled = elim (cases_lt at (n * 65536)) [
  | inl before ↦ (omega (arith, whole, before), omega (arith, whole, before))
  | inr past ↦ absurd (unsettled stays apart one bytes limit (n * 65536) at past goes settled.1)
]

-- and all reads are, where all bytes were taken
pub reads_are_needed : StopStays → Apart → OneStop → (bytes : List ℕ) (limit at end n : ℕ) → at ≡ end → (at ≡ 0) ⊎ GoesOn (take at bytes) limit → SettledBy bytes limit n → (reads_for end ≤ n) × (end ≤ n * 65536)
reads_are_needed stays apart one bytes limit at end n all (inl first) settled = (omega (arith, all, first), omega (arith, all, first))
reads_are_needed stays apart one bytes limit at end n all (inr goes) settled = elim (cases_lt at (n * 65536)) [
  | inl before ↦ (omega (arith, all, before), omega (arith, all, before))
  | inr past ↦ absurd (unsettled stays apart one bytes limit (n * 65536) at past goes settled.1)
]

-- a piece after which more is wanted
pub goes_after : (d e : Decoder) (bytes taken piece : List ℕ) (limit at size : ℕ) (fed : Fed) → fed ≡ More → FedPiece d e piece fed → Took d taken → limit_of d ≡ limit
    → taken ++ piece ≡ take (at + size) bytes → GoesOn (take (at + size) bytes) limit
goes_after d e bytes taken piece limit at size fed is f t limit_is next =
    let feeds : Feeds taken piece (limit_of d) (Ok More) = subst (λ (x : Fed). Feeds taken piece (limit_of d) (Ok x)) is (f.feeds taken t) in
    subst (λ (l : ℕ). GoesOn (take (at + size) bytes) l) limit_is (subst (λ (x : List ℕ). GoesOn x (limit_of d)) next feeds)
