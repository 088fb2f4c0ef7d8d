-- What a decoder has taken once it was fed a piece.
use Rattle.std.proofs.Common.{◌≡◌, ℕ, ◌+◌, ◌-◌, ◌<◌, ◌≤◌, List, [], ◌++◌, length, map, take, Option, Some, None, Ok, refl, sym, ap, ap₂, subst, ◌∙◌, inl, inr, append_assoc, append-nil, arith}
use Rattle.std.proofs.lemmas.List.{length-append, take_all, nil_from_length}
use Rattle.std.specs.Prelude.{unwrap_or}
use Rattle.std.proofs.lemmas.Bool.{cases_lt, le-ltb, lt-ltb}
use Rattle.ncc_values.specs.Numbers.{IsBytes}
use Rattle.ncc_values.specs.BigEndian.{bytes-append, bytes-take}
use Rattle.ncc_header.specs.declared.fault.FaultKind.TheVariants.{HeaderTooLong, EndsEarly}
use Rattle.ncc_header.specs.declared.fault.HeaderError.{HeaderError}
use Rattle.ncc_header.specs.declared.fault.HeaderError.TheVariants as errors
use Rattle.ncc_header.specs.declared.reading.Reading.{Reading}
use Rattle.ncc_schema.specs.declared.schema.Schema.{Schema}
use Rattle.ncc_schema.specs.declared.schema.VarPlace.{VarPlace}
use Rattle.ncc_header.specs.Grammar.{Grammar, done, field, reads, stops, read, lacking, fields}
use Rattle.ncc_schema.specs.Header.{IsHeader}
use Rattle.ncc_header.specs.Fields.{header}
use Rattle.ncc_header.specs.Answers.{Begins, Stops}
use Rattle.ncc_header.specs.Marks.{marks, begins, header_marks, header_begins}
use Rattle.ncc_schema.specs.Schema.{places_of}
use Rattle.ncc_header.specs.Left.{Given}
use Rattle.ncc_header.specs.Steps.{size_of}
use Rattle.ncc_header.specs.Reading.{course, from_start, next_of, held_of, begun_of, onward, Takes, FailsBehind, Waits}
use Rattle.ncc_header.specs.State.{IsWhole, HasTaken, FailedOn, Feeds, IsSettled, lacks_of, fed_of, front_taken, cut_at}
use Rattle.ncc_header.proofs.OneField.{field_ends_early, field_too_long, lacking_early, lacking_late, lacks_nothing, lacks_none}
use Rattle.ncc_header.proofs.HeaderLaws.{header_stop_stays, begins_with_read}

pub has_taken_more : (old new : Reading) (taken front : List ℕ) → IsBytes front → HasTaken old taken → Takes old new front → Waits new → HasTaken new (taken ++ front)
has_taken_more old new taken front bytes t k waits = record {
  bytes = bytes-append taken front t.bytes bytes;
  goes_on = λ more.
      ap (λ (limit : ℕ). from_start limit ((taken ++ front) ++ more)) k.limit
      ∙ ap (from_start old.limit) (append_assoc taken front more)
      ∙ t.goes_on (front ++ more) ∙ k.goes_on more;
  long = omega (arith, k.long, t.long, length-append taken front);
  still_short = λ n is. (waits n is).1;
}

-- nothing comes behind what was taken
course_at_end : (r : Reading) (taken : List ℕ) → HasTaken r taken → from_start r.limit taken ≡ course (next_of r) r.limit r.at r.marks.items (begun_of r) (held_of r)
course_at_end r taken t = ap (from_start r.limit) (sym (append-nil taken)) ∙ t.goes_on [] ∙ ap (course (next_of r) r.limit r.at r.marks.items (begun_of r)) (append-nil (held_of r))

at_end : (r : Reading) (taken : List ℕ) → HasTaken r taken → read header r.limit 0 taken ≡ read (next_of r) r.limit r.at (held_of r)
at_end r taken t = ap (λ c. c.outcome) (course_at_end r taken t)

-- a field is next that the input doesn't reach the end of
ends_early : (r : Reading) (taken : List ℕ) (n : ℕ) → HasTaken r taken → size_of (next_of r) ≡ Some n → r.at + n ≤ r.limit → read header r.limit 0 taken ≡ stops r.at EndsEarly
ends_early r taken n t is within = at_end r taken t ∙ field_ends_early (next_of r) r.limit r.at n (held_of r) is within (t.still_short n is)

pub cut_stops : (r : Reading) (taken : List ℕ) (n : ℕ) → HasTaken r taken → size_of (next_of r) ≡ Some n → Stops taken r.limit (cut_at r.limit r.at n)
cut_stops r taken n t is =
    elim (cases_lt r.limit (r.at + n)) [
      | inl past ↦ rw (lt-ltb r.limit (r.at + n) past) (at_end r taken t ∙ field_too_long (next_of r) r.limit r.at n (held_of r) is past)
      | inr within ↦ rw (le-ltb r.limit (r.at + n) within) (ends_early r taken n t is within)
    ]

-- a grammar that has no field
no_field : {A : Type 0} (g : Grammar A) → size_of g ≡ None → (a : A) × (g ≡ done a)
no_field (done a) is = (a, refl)
no_field (field label size wrong next) is = absurd cc

-- nothing has come of a field that isn't there
nothing_held : (r : Reading) → size_of (next_of r) ≡ None → held_of r ≡ []
nothing_held r is =
    let few : length (held_of r) ≤ unwrap_or (size_of (next_of r)) 0 = r.still_short in
    let none : unwrap_or (size_of (next_of r)) 0 ≡ 0 = ap (λ (o : Option ℕ). unwrap_or o 0) is in
    nil_from_length (held_of r) (omega (arith, few, none))

read_none : (x : Given) (limit at : ℕ) (input : List ℕ) → read (done x) limit at input ≡ reads x at input
unfolding read
read_none x limit at input = refl

fields_none : (x : Given) (at : ℕ) (input : List ℕ) → fields (done x) at input ≡ []
unfolding fields
fields_none x at input = refl

-- no field is next: what was taken is a header
whole_header : (r : Reading) (taken : List ℕ) (x : Given) → HasTaken r taken → next_of r ≡ done x → IsHeader x.0 x.1 taken × (r.at ≤ r.limit) × (r.at ≡ length taken)
whole_header r taken x t is =
    let none : held_of r ≡ [] = nothing_held r (ap size_of is) in
    let empty : length (held_of r) ≡ 0 = ap length none in
    let long : r.at ≡ length taken = omega (arith, empty, t.long) in
    let all : read header r.limit 0 (taken ++ []) ≡ reads x r.at [] =
    ap (λ c. c.outcome) (t.goes_on []) ∙ ap₂ (λ (g : Grammar Given) (h : List ℕ). read g r.limit r.at (h ++ [])) is none ∙ read_none x r.limit r.at [] in
    let whole = begins_with_read taken [] r.limit r.at x (bytes-append taken [] t.bytes tt) long all in
    (whole.0, whole.1, long)

-- what was shown is all that the header shows
all_shown : (r : Reading) (taken : List ℕ) (x : Given) → HasTaken r taken → next_of r ≡ done x → (header_marks taken ≡ r.marks.items) × (header_begins taken ≡ begun_of r)
all_shown r taken x t is =
    let none : fields (next_of r) r.at (held_of r) ≡ [] = ap (λ g. fields g r.at (held_of r)) is ∙ fields_none x r.at (held_of r) in
    let end = course_at_end r taken t in (
      ap (λ c. c.shown) end ∙ ap (λ fs. r.marks.items ++ marks fs) none ∙ append-nil r.marks.items,
      ap (λ c. c.begun) end ∙ ap (λ fs. begun_of r ++ begins fs) none ∙ append-nil (begun_of r),
    )

pub finishes : (r : Reading) (taken : List ℕ) (s : Schema) (places : List VarPlace) → HasTaken r taken → next_of r ≡ done (s, places_of places) → map (λ p. p.begin_at) places ≡ begun_of r
    → Begins taken r.limit (record { schema = s; places = places; length = r.at; marks = r.marks.items })
finishes r taken s places t is begun =
    let w = whole_header r taken (s, places_of places) t is in
    let shown = all_shown r taken (s, places_of places) t is in
    record {
      front = taken;
      rest = [];
      joined = sym (append-nil taken);
      is_header = w.0;
      begins = begun ∙ sym shown.1;
      marks = sym shown.0;
      long = w.2;
      within = w.1;
    }

pub feeds : (old new : Reading) (taken piece : List ℕ) (used : ℕ) (o : Option ℕ) → IsBytes piece → HasTaken old taken → Takes old new (take used piece) → Waits new → used ≤ length piece → ((n : ℕ) → size_of (next_of new) ≡ Some n → used ≡ length piece) → size_of (next_of new) ≡ o → Feeds taken piece old.limit (Ok (fed_of o used))
feeds old new taken piece used (Some n) bytes t k waits within all is =
    let t2 = has_taken_more old new taken (take used piece) (bytes-take used piece bytes) t k waits in
    let front : take used piece ≡ piece = ap (λ (m : ℕ). take m piece) (all n is) ∙ take_all (length piece) piece (omega arith) in (
      record { kind = EndsEarly; offset = new.at },
      ap (λ (input : List ℕ). read header old.limit 0 (taken ++ input)) (sym front)
          ∙ ap (λ (limit : ℕ). read header limit 0 (taken ++ take used piece)) (sym k.limit)
          ∙ ends_early new (taken ++ take used piece) n t2 is (waits n is).0,
      refl,
    )
feeds old new taken piece used None bytes t k waits within all is =
    let t2 = has_taken_more old new taken (take used piece) (bytes-take used piece bytes) t k waits in
    let end = no_field (next_of new) is in
    let w = whole_header new (taken ++ take used piece) end.0 t2 end.1 in
    (within, (end.0.0, end.0.1, w.0, omega (arith, w.1, w.2, k.limit)))

-- the bytes that such an answer says were taken
pub takes_fed : (new : Reading) (taken piece : List ℕ) (used : ℕ) (o : Option ℕ) → ((n : ℕ) → size_of (next_of new) ≡ Some n → used ≡ length piece) → size_of (next_of new) ≡ o → HasTaken new (taken ++ take used piece) → HasTaken new (taken ++ front_taken (Ok (fed_of o used)) piece)
takes_fed new taken piece used (Some n) all is t = subst (λ (front : List ℕ). HasTaken new (taken ++ front)) (ap (λ (m : ℕ). take m piece) (all n is) ∙ take_all (length piece) piece (omega arith)) t
takes_fed new taken piece used None all is t = t

-- ---- faults

pub fails_after : (r : Reading) (taken piece : List ℕ) (e : HeaderError) → HasTaken r taken → FailsBehind r piece e → FailedOn (taken ++ piece) r.limit e
fails_after r taken piece (errors.Fault f) t b = (ap (λ c. c.outcome) (t.goes_on piece ∙ ap (onward r) (sym (append-nil piece))) ∙ b.stays [], b.other)
fails_after r taken piece errors.Device t b = b
fails_after r taken piece errors.Memory t b = tt

pub fails_again : (taken piece : List ℕ) (limit : ℕ) (e : HeaderError) → FailedOn taken limit e → FailedOn (taken ++ piece) limit e
fails_again taken piece limit (errors.Fault f) h = (header_stop_stays taken piece limit f h.0 h.1, h.1)
fails_again taken piece limit errors.Device h = h
fails_again taken piece limit errors.Memory h = tt

-- ---- what is wanted

lacks_all : (r : Reading) (o : Option ℕ) → size_of (next_of r) ≡ o → ((n : ℕ) → o ≡ Some n → length (held_of r) < n) → lacking (next_of r) r.limit r.at (held_of r) ≡ lacks_of o r.limit r.at (length (held_of r))
lacks_all r None is still_short = let end = no_field (next_of r) is in ap (λ (g : Grammar Given). lacking g r.limit r.at (held_of r)) end.1 ∙ lacks_nothing end.0 r.limit r.at (held_of r)
lacks_all r (Some n) is still_short =
    elim (cases_lt r.limit (r.at + n)) [
      | inl past ↦ rw (lt-ltb r.limit (r.at + n) past) (lacking_late (next_of r) r.limit r.at n (held_of r) is past)
      | inr within ↦ rw (le-ltb r.limit (r.at + n) within) (lacking_early (next_of r) r.limit r.at n (held_of r) is within (still_short n refl))
    ]

pub reading_lacks : (r : Reading) (taken : List ℕ) → HasTaken r taken → lacking header r.limit 0 taken ≡ lacks_of (size_of (next_of r)) r.limit r.at (length (held_of r))
reading_lacks r taken t = ap (λ c. c.lacks) (course_at_end r taken t) ∙ lacks_all r (size_of (next_of r)) refl t.still_short

-- no field is next: what was taken is a header within the limit
pub whole_reading : (r : Reading) (taken : List ℕ) → HasTaken r taken → size_of (next_of r) ≡ None → IsWhole taken r.limit
whole_reading r taken t is =
    let end = no_field (next_of r) is in
    let w = whole_header r taken end.0 t end.1 in
    (end.0.0, end.0.1, w.0, omega (arith, w.1, w.2))

settled_all : (r : Reading) (taken : List ℕ) (o : Option ℕ) → HasTaken r taken → size_of (next_of r) ≡ o → lacks_of o r.limit r.at (length (held_of r)) ≡ 0 → IsSettled taken r.limit
settled_all r taken None t is none = inl (whole_reading r taken t is)
settled_all r taken (Some n) t is none =
    elim (cases_lt r.limit (r.at + n)) [
      | inl past ↦ inr (
        record { kind = HeaderTooLong; offset = r.at },
        (at_end r taken t ∙ field_too_long (next_of r) r.limit r.at n (held_of r) is past, λ h. cc),
      )
      | inr within ↦
          let lack : n - length (held_of r) ≡ 0 = rw (le-ltb r.limit (r.at + n) within) at none in
          absurd (omega (arith, lack, t.still_short n is))
    ]

pub reading_settled : (r : Reading) (taken : List ℕ) → HasTaken r taken → lacks_of (size_of (next_of r)) r.limit r.at (length (held_of r)) ≡ 0 → IsSettled taken r.limit
reading_settled r taken t none = settled_all r taken (size_of (next_of r)) t refl none

pub failed_lacks : (taken : List ℕ) (limit : ℕ) (e : HeaderError) → FailedOn taken limit e → (e ≡ errors.Memory → ⊥) → (0 ≡ lacking header limit 0 taken) × IsSettled taken limit
failed_lacks taken limit (errors.Fault f) h fresh = (sym (lacks_none header limit 0 taken f.offset f.kind h.1 h.0), inr (f, h))
failed_lacks taken limit errors.Device h fresh = absurd h
failed_lacks taken limit errors.Memory h fresh = absurd (fresh refl)
