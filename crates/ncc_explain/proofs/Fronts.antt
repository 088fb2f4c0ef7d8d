-- Where the fault of a header is: within the bytes and the limit, and nothing before it settles what the header is.
use Rattle.std.proofs.Common.{◌≡◌, ◌≢◌, ◌⊎◌, ℕ, ◌+◌, ◌*◌, ◌-◌, ◌<◌, ◌≤◌, List, ◌++◌, length, take, drop, Option, Some, None, refl, sym, ap, subst, ◌∙◌, inl, inr, arith}
use Rattle.std.specs.Prelude.{IfSome}
use Rattle.std.proofs.lemmas.Bool.{cases_lt, le-ltb, lt-ltb}
use Rattle.std.proofs.lemmas.List.{drop-append-le, length-append, length-drop, length-take, length-take-le, take-append-le, take-take, take_all}
use Rattle.ncc_schema.specs.declared.schema.Header.{Header}
use Rattle.ncc_header.specs.declared.decoder.Decoder.{Decoder}
use Rattle.ncc_header.specs.declared.fault.Fault.{Fault}
use Rattle.ncc_header.specs.declared.fault.FaultKind.{FaultKind}
use Rattle.ncc_header.specs.declared.fault.FaultKind.TheVariants.{HeaderTooLong, EndsEarly}
use Rattle.ncc_header.specs.declared.fault.HeaderError.{HeaderError}
use Rattle.ncc_header.specs.declared.fault.HeaderError.TheVariants as errors
use Rattle.ncc_header.specs.declared.fault.Wrong.{Wrong}
use Rattle.ncc_header.specs.Answers.{Begins, Stops}
use Rattle.ncc_header.specs.declared.unfinished.Unfinished.{Unfinished}
use Rattle.ncc_header.specs.Awaited.{AreNamesOf, names_told, unfinished_at}
use Rattle.ncc_header.specs.Decoder.{HasFailed, Took, limit_of}
use Rattle.ncc_header.specs.Fields.{header}
use Rattle.ncc_header.specs.Grammar.{Grammar, done, field, Outcome, reads, stops, read, unless_wrong}
use Rattle.ncc_header.specs.State.{FailedOn, IsSettled, StopsForGood}
use Rattle.ncc_header.proofs.GrammarLaws.{whole_front}
use Rattle.ncc_check.specs.FromStore.{SettledBy}
use Rattle.ncc_check.proofs.FromStore.{Apart, HeaderIsBegun, OneStop, StopStays, begins_more, front_and_rest, more_taken}
use Rattle.ncc_parts.specs.Parts.{part_at, parts_of}
use Rattle.ncc_explain.specs.Sites.{GoesOnIn, IsFront, longest}

-- ---- a grammar of fields

no_stop : {A : Type 0} (a : A) (end : ℕ) (rest : List ℕ) (o : ℕ) (k : FaultKind) → reads a end rest ≡ stops o k → ⊥
no_stop a end rest o k e = absurd cc

same_stop : {A : Type 0} (x : Outcome A) (o p : ℕ) (r s : FaultKind) → x ≡ stops o r → x ≡ stops p s → (o ≡ p) × (r ≡ s)
same_stop x o p r s e d = let both : stops o r ≡ stops p s = sym e ∙ d in (cc, cc)

-- a stop is within the limit and the input
within_wrong : {A : Type 0} (w : Option Wrong) (x : Outcome A) (at limit end offset : ℕ) (kind : FaultKind) → at ≤ limit → at ≤ end
    → (x ≡ stops offset kind → (offset ≤ end) × (offset ≤ limit)) → unless_wrong w at x ≡ stops offset kind → (offset ≤ end) × (offset ≤ limit)
within_wrong None x at limit end offset kind le there onward h = onward h
within_wrong (Some w) x at limit end offset kind le there onward h =
    let same = same_stop (unless_wrong (Some w) at x) (at - w.back) offset w.kind kind refl h in
    (omega (arith, same.0, there), omega (arith, same.0, le))

stop_within : {A : Type 0} (g : Grammar A) (limit at : ℕ) (input : List ℕ) (offset : ℕ) (kind : FaultKind) → at ≤ limit → read g limit at input ≡ stops offset kind → (offset ≤ at + length input) × (offset ≤ limit)
unfolding read
stop_within (done x) limit at input offset kind le h = absurd (no_stop x at input offset kind h)
stop_within (field label size wrong next) limit at input offset kind le h =
    elim (cases_lt limit (at + size)) [
      | inl past ↦
          let same = same_stop _ at offset HeaderTooLong kind refl (rw (lt-ltb limit (at + size) past) at h) in
          (omega (arith, same.0), omega (arith, same.0, le))
      | inr within ↦ elim (cases_lt (length input) size) [
        | inl short ↦
            let same = same_stop _ at offset EndsEarly kind refl (rw (le-ltb limit (at + size) within, lt-ltb (length input) size short) at h) in
            (omega (arith, same.0), omega (arith, same.0, le))
        | inr long ↦
            within_wrong (wrong (take size input)) _ at limit (at + length input) offset kind le (omega arith)
            (λ onward.
            let rest = stop_within (next (take size input)) limit (at + size) (drop size input) offset kind within onward in
            (omega (arith, rest.0, length-drop size input, long), rest.1))
            (sym (whole_front label size wrong next limit at input long within) ∙ h)
      ]
    ]

-- what comes before a stop ends early, unless it ends there
end_wrong : {A : Type 0} (w : Option Wrong) (x y : Outcome A) (at n offset o : ℕ) (kind k : FaultKind) → at + n ≤ offset
    → (x ≡ stops offset kind → y ≡ stops o k → at + n ≡ offset) → unless_wrong w at x ≡ stops offset kind → unless_wrong w at y ≡ stops o k → at + n ≡ offset
end_wrong None x y at n offset o kind k le onward h j = onward h j
end_wrong (Some w) x y at n offset o kind k le onward h j =
    let same = same_stop (unless_wrong (Some w) at x) (at - w.back) offset w.kind kind refl h in
    omega (arith, same.0, le)

front_ends : {A : Type 0} (g : Grammar A) (limit longer at : ℕ) (front rest : List ℕ) (offset o : ℕ) (kind k : FaultKind) → limit ≤ longer → at + length front ≤ offset → k ≢ EndsEarly
    → read g limit at (front ++ rest) ≡ stops offset kind → read g longer at front ≡ stops o k → at + length front ≡ offset
unfolding read
front_ends (done x) limit longer at front rest offset o kind k more le other h j = absurd (no_stop x at front o k j)
front_ends (field label size wrong next) limit longer at front rest offset o kind k more le other h j =
    elim (cases_lt limit (at + size)) [
      | inl past ↦
          let same = same_stop _ at offset HeaderTooLong kind refl (rw (lt-ltb limit (at + size) past) at h) in
          omega (arith, same.0, le)
      | inr within ↦ elim (cases_lt (length front) size) [
        | inl few ↦
            let same = same_stop _ at o EndsEarly k refl (rw (le-ltb longer (at + size) (omega (arith, within, more)), lt-ltb (length front) size few) at j) in
            absurd (other (sym same.1))
        | inr all ↦
            let fronts : take size (front ++ rest) ≡ take size front = take-append-le size front rest all in
            let backs : drop size (front ++ rest) ≡ drop size front ++ rest = drop-append-le size front rest all in
            let whole = sym (whole_front label size wrong next limit at (front ++ rest) (omega (arith, length-append front rest, all)) within) ∙ h in
            end_wrong (wrong (take size front)) (read (next (take size front)) limit (at + size) (drop size front ++ rest)) _ at (length front) offset o kind k le
            (λ a b.
            let ends = front_ends (next (take size front)) limit longer (at + size) (drop size front) rest offset o kind k more (omega (arith, le, length-drop size front, all)) other a b in
            omega (arith, ends, length-drop size front, all))
            (rw (fronts, backs) at whole)
            (sym (whole_front label size wrong next longer at front all (omega (arith, within, more))) ∙ j)
      ]
    ]

-- ---- headers

-- a fault is within the bytes and the limit
pub stops_within : (bytes : List ℕ) (limit : ℕ) (f : Fault) → Stops bytes limit f → (f.offset ≤ length bytes) × (f.offset ≤ limit)
stops_within bytes limit f stop =
    let within = stop_within header limit 0 bytes f.offset f.kind (omega arith) stop in
    (omega (arith, within.0), within.1)

-- so many bytes before a fault settle nothing, unless they are all before it
settled_front : HeaderIsBegun → Apart → (bytes front rest : List ℕ) (limit : ℕ) (f : Fault) → limit ≤ longest → bytes ≡ front ++ rest → Stops bytes limit f → length front ≤ f.offset → IsSettled front longest → length front ≡ f.offset
settled_front begun apart bytes front rest limit f few joined stop le (inl whole) =
    let within = stops_within bytes limit f stop in
    let b = begun whole.0 whole.1 front rest limit whole.2 (omega (arith, le, within.1)) in
    absurd (apart (front ++ rest) limit b.0 f b.1 (subst (λ (x : List ℕ). Stops x limit f) joined stop))
settled_front begun apart bytes front rest limit f few joined stop le (inr g) =
    omega (arith, front_ends header limit longest 0 front rest f.offset g.0.offset f.kind g.0.kind few (omega (arith, le)) g.1.1 (subst (λ (x : List ℕ). Stops x limit f) joined stop) g.1.0)

-- the front up to a fault is all that comes before it
pub front_is_all : HeaderIsBegun → Apart → (bytes taken : List ℕ) (limit end : ℕ) (f : Fault) → limit ≤ longest → Stops bytes limit f → end ≡ f.offset → IsFront bytes end taken → taken ≡ take f.offset bytes
front_is_all begun apart bytes taken limit end f few stop at front =
    let within = stops_within bytes limit f stop in
    let long : length taken ≡ front.0 = ap length front.2 ∙ length-take-le front.0 bytes (omega (arith, front.1, at, within.0)) in
    let joined : bytes ≡ taken ++ drop front.0 bytes = front_and_rest bytes taken front.0 front.2 in
    let all : front.0 ≡ f.offset = ends front.3 (λ settled. sym long ∙ settled_front begun apart bytes taken (drop front.0 bytes) limit f few joined stop (omega (arith, long, front.1, at)) settled) in
    front.2 ∙ ap (λ (n : ℕ). take n bytes) all
  where
    ends : (front.0 ≡ end) ⊎ IsSettled taken longest → (IsSettled taken longest → front.0 ≡ f.offset) → front.0 ≡ f.offset
    ends (inl same) other = same ∙ at
    ends (inr settled) other = other settled

-- a fault is in the bytes that settle what the header is
pub fault_in_settled : StopStays → Apart → OneStop → (bytes : List ℕ) (limit n : ℕ) (f : Fault) → Stops bytes limit f → SettledBy bytes limit n → f.offset ≤ n * 65536
fault_in_settled stays apart one bytes limit n f stop settled = by settled.1
  where
    front : List ℕ
    front = take (n * 65536) bytes

    joined : bytes ≡ front ++ drop (n * 65536) bytes
    joined = front_and_rest bytes front (n * 65536) refl

    stops_joined : Stops (front ++ drop (n * 65536) bytes) limit f
    stops_joined = subst (λ (x : List ℕ). Stops x limit f) joined stop

    by : ((h : Header) × Begins front limit h) ⊎ ((g : Fault) × StopsForGood front limit g) → f.offset ≤ n * 65536
    by (inl h) = absurd (apart (front ++ drop (n * 65536) bytes) limit h.0 f (begins_more front (drop (n * 65536) bytes) limit h.0 h.1) stops_joined)
    by (inr g) =
        let same = one (front ++ drop (n * 65536) bytes) limit g.0 f (stays front (drop (n * 65536) bytes) limit g.0 g.1.0 g.1.1) stops_joined in
        let within = stops_within front limit g.0 g.1.0 in
        omega (arith, ap (λ (x : Fault). x.offset) same, within.0, length-take (n * 65536) bytes)

-- ---- a piece of a front

-- what was taken, and a front of the next piece
pub front_taken_on : (bytes taken piece : List ℕ) (at size n end : ℕ) → taken ≡ take at bytes → piece ≡ take size (drop at bytes) → n ≤ length piece → at + size ≤ end → IsSettled (taken ++ take n piece) longest
    → IsFront bytes end (taken ++ take n piece)
front_taken_on bytes taken piece at size n end so_far next few within settled =
    let short : n ≤ size = omega (arith, few, ap length next, length-take size (drop at bytes)) in
    let same : take n piece ≡ take n (drop at bytes) = ap (take n) next ∙ take-take n size (drop at bytes) short in (
      at + n,
      omega (arith, short, within),
      more_taken bytes taken (take n piece) at n so_far same,
      inr settled,
    )

-- a piece in which the header has a fault
pub faulted_on : (d : Decoder) (taken piece : List ℕ) (limit : ℕ) (e : HeaderError) (f : Fault) → e ≡ errors.Fault f → FailedOn (taken ++ piece) limit e → Took d (taken ++ piece)
    → (n : ℕ) × (n ≤ length piece) × Took d (taken ++ take n piece) × IsSettled (taken ++ take n piece) limit
faulted_on d taken piece limit e f is failed took =
    let all : take (length piece) piece ≡ piece = take_all (length piece) piece (omega arith) in (
      length piece,
      omega arith,
      subst (λ (x : List ℕ). Took d (taken ++ x)) (sym all) took,
      subst (λ (x : List ℕ). IsSettled (taken ++ x) limit) (sym all) (inr (f, subst (FailedOn (taken ++ piece) limit) is failed)),
    )

-- ---- where a header goes on

-- what a decoder tells of the bytes that it took, where its limit is the greatest
pub goes_on_in : (d : Decoder) (taken : List ℕ) (place : Option Unfinished) → Took d taken → limit_of d ≡ longest → ¬ HasFailed d errors.Memory
    → ((some more : List ℕ) (h : Header) → Took d some → Begins (some ++ more) (limit_of d) h → length some < h.length → IfSome place (λ u. part_at (length some) (parts_of h.schema) ≡ Some u.part))
    → ((some more : List ℕ) (h : Header) → Took d some → Begins (some ++ more) (limit_of d) h → IfSome place (λ u. AreNamesOf h.schema (names_told u)))
    → (place ≡ unfinished_at d.state) → ((some : List ℕ) → Took d some → ¬ HasFailed d errors.Memory → place ≡ None → IsSettled some (limit_of d)) → GoesOnIn taken place
goes_on_in d taken place took limit fresh part names exact settled = record {
  part = λ more h b. part taken more h took (subst (λ (l : ℕ). Begins (taken ++ more) l h) (sym limit) b);
  names = λ more h b. names taken more h took (subst (λ (l : ℕ). Begins (taken ++ more) l h) (sym limit) b);
  told = (d, took, limit, exact);
  settled = λ none. subst (IsSettled taken) limit (settled taken took fresh none);
}
