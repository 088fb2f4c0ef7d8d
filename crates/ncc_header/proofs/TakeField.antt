-- What a reading has still to read, once bytes were taken.
use Rattle.std.proofs.Common.{◌≡◌, ℕ, ◌+◌, ◌≤◌, List, [], ◌∷◌, ◌++◌, length, Some, Err, refl, sym, ap, subst, ◌∙◌, append_assoc, append-nil, arith}
use Rattle.std.proofs.lemmas.List.{length-append}
use Rattle.ncc_header.specs.declared.reading.Reading.{Reading}
use Rattle.ncc_schema.specs.declared.schema.Mark.{Mark}
use Rattle.ncc_header.specs.declared.partial.Partial.{Partial}
use Rattle.ncc_header.specs.declared.fault.StepError.{StepError}
use Rattle.ncc_header.specs.declared.fault.StepError.TheVariants as steps
use Rattle.ncc_header.specs.Grammar.{Label, Plain, Padding, CountOfTagged, Begin, Grammar, Field, fields}
use Rattle.ncc_header.specs.Marks.{mark_of, marks, begin_of, begins}
use Rattle.ncc_header.specs.Left.{Given, come_of}
use Rattle.ncc_header.specs.Steps.{size_of, label_of, with_begin, Advances, StepsTo, Steps}
use Rattle.ncc_header.specs.Reading.{course, next_of, held_of, begun_of, told_of, Takes, FailsBehind}
use Rattle.ncc_header.proofs.OneField.{field_goes_on, lacking_goes_on, fields_go_on, field_is_refused}
use Rattle.ncc_header.proofs.RefusedKinds.{refused_other}

-- the offset of a begin field comes behind those of before
begun_more : (label : Label) (at : ℕ) (ats : List ℕ) → ats ++ begin_of label at ≡ with_begin label at ats
begun_more Plain at ats = append-nil ats
begun_more Padding at ats = append-nil ats
begun_more CountOfTagged at ats = append-nil ats
begun_more Begin at ats = refl

-- what a field shows stands behind what those before it showed
shown_more : (shown : List Mark) (f : Field) (rest : List Field) → shown ++ marks (f ∷ rest) ≡ (shown ++ mark_of f.label f.at f.bytes) ++ marks rest
shown_more shown f rest = sym (append_assoc shown (mark_of f.label f.at f.bytes) (marks rest))

pub course_goes_on : (g h : Grammar Given) (limit at n : ℕ) (shown : List Mark) (begun : List ℕ) (held front more : List ℕ) → size_of g ≡ Some n → at + n ≤ limit → length (held ++ front) ≡ n → Advances g (held ++ front) h
    → course g limit at shown begun (held ++ (front ++ more)) ≡ course h limit (at + n) (shown ++ mark_of (label_of g) at (held ++ front)) (with_begin (label_of g) at begun) more
course_goes_on g h limit at n shown begun held front more is within long adv = λ i. record {
  outcome = field_goes_on g h limit at n held front more is within long adv i;
  lacks = lacking_goes_on g h limit at n held front more is within long adv i;
  shown = (ap (λ fs. shown ++ marks fs) parts ∙ shown_more shown one (fields h (at + n) more)) i;
  begun = (ap (λ fs. begun ++ begins fs) parts ∙ sym (append_assoc begun (begin_of (label_of g) at) (begins (fields h (at + n) more))) ∙ ap (λ ats. ats ++ begins (fields h (at + n) more)) (begun_more (label_of g) at begun)) i;
}
  where
    one : Field
    one = record { label = label_of g; at = at; bytes = held ++ front }

    parts : fields g at (held ++ (front ++ more)) ≡ one ∷ fields h (at + n) more
    parts = fields_go_on g h at n held front more is long adv

-- the field's last bytes are taken
takes_field : (old new : Reading) (n : ℕ) (front : List ℕ) → size_of (next_of old) ≡ Some n → old.at + n ≤ old.limit → length (held_of old) + length front ≡ n → Advances (next_of old) (held_of old ++ front) (next_of new)
    → new.marks.items ≡ old.marks.items ++ mark_of (label_of (next_of old)) old.at (held_of old ++ front) → begun_of new ≡ with_begin (label_of (next_of old)) old.at (begun_of old)
    → held_of new ≡ [] → new.limit ≡ old.limit → new.at ≡ old.at + n → Takes old new front
takes_field old new n front is within long adv shown begun none limit at = record {
  limit = limit;
  goes_on = λ more.
      course_goes_on (next_of old) (next_of new) old.limit old.at n old.marks.items (begun_of old) (held_of old) front more is within (length-append (held_of old) front ∙ long) adv
      ∙ (λ i. course (next_of new) (sym limit i) (sym at i) (sym shown i) (sym begun i) (sym none i ++ more));
  long = let empty : length (held_of new) ≡ 0 = ap length none in omega (arith, empty, long, at);
}

-- the field's last bytes are refused
fails_field : (old : Reading) (new : Partial) (n : ℕ) (front : List ℕ) (e : StepError) → size_of (next_of old) ≡ Some n → old.at + n ≤ old.limit → length (held_of old) + length front ≡ n → Steps old.next old.partial old.at (held_of old ++ front) (Err e) new → FailsBehind old front (told_of old.at e)
fails_field old new n front steps.Memory is within long s = tt
fails_field old new n front (steps.Wrong w) is within long s = record {
  stays = λ more. field_is_refused (next_of old) old.limit old.at n (held_of old) front more w is within (length-append (held_of old) front ∙ long) s;
  other = refused_other old.next old.partial (held_of old ++ front) w s;
}

-- ---- bytes behind those that stand where they stay

-- nothing is held behind those
come_all : (r : Reading) → r.held.items ≡ [] → held_of r ≡ come_of r.next r.partial
come_all r none = ap (λ (h : List ℕ). come_of r.next r.partial ++ h) none ∙ append-nil (come_of r.next r.partial)

pub takes_bytes : (old new : Reading) (n : ℕ) (bytes : List ℕ) → size_of (next_of old) ≡ Some n → old.at + n ≤ old.limit → length (come_of old.next old.partial ++ bytes) ≡ n → old.held.items ≡ [] → new.held.items ≡ []
    → StepsTo old.next old.partial old.at (come_of old.next old.partial ++ bytes) new.next new.partial → new.marks.items ≡ old.marks.items ++ mark_of (label_of (next_of old)) old.at (come_of old.next old.partial ++ bytes)
    → new.limit ≡ old.limit → new.at ≡ old.at + n → Takes old new bytes
takes_bytes old new n bytes is within long none none' steps marks limit at =
    let come = come_all old none in
    takes_field old new n bytes is within
    (sym (length-append (held_of old) bytes) ∙ ap (λ (x : List ℕ). length (x ++ bytes)) come ∙ long)
    (subst (λ (x : List ℕ). Advances (next_of old) (x ++ bytes) (next_of new)) (sym come) steps.advances)
    (marks ∙ ap (λ (x : List ℕ). old.marks.items ++ mark_of (label_of (next_of old)) old.at (x ++ bytes)) (sym come))
    steps.begins (come_all new none' ∙ steps.fresh) limit at

pub fails_bytes : (old : Reading) (new : Partial) (n : ℕ) (bytes : List ℕ) (e : StepError) → size_of (next_of old) ≡ Some n → old.at + n ≤ old.limit → length (come_of old.next old.partial ++ bytes) ≡ n → old.held.items ≡ []
    → Steps old.next old.partial old.at (come_of old.next old.partial ++ bytes) (Err e) new → FailsBehind old bytes (told_of old.at e)
fails_bytes old new n bytes e is within long none steps =
    let come = come_all old none in
    fails_field old new n bytes e is within
    (sym (length-append (held_of old) bytes) ∙ ap (λ (x : List ℕ). length (x ++ bytes)) come ∙ long)
    (subst (λ (x : List ℕ). Steps old.next old.partial old.at (x ++ bytes) (Err e) new) (sym come) steps)
