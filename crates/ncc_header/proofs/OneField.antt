-- One field more, or one that stops.
use Rattle.std.proofs.Common.{◌≡◌, ◌≢◌, ℕ, ◌+◌, ◌-◌, ◌<◌, ◌≤◌, List, ◌∷◌, ◌++◌, length, take, drop, Option, Some, None, refl, sym, ap, ◌∙◌, append_assoc, arith, inl, inr}
use Rattle.std.specs.Prelude.{is_some, if◌then◌else◌}
use Rattle.std.proofs.lemmas.Bool.{cases_lt, le-ltb, lt-ltb}
use Rattle.std.proofs.lemmas.List.{length-append, take_at, drop_at}
use Rattle.ncc_header.specs.declared.fault.FaultKind.{FaultKind}
use Rattle.ncc_header.specs.declared.fault.FaultKind.TheVariants.{HeaderTooLong, EndsEarly}
use Rattle.ncc_header.specs.declared.fault.Wrong.{Wrong}
use Rattle.ncc_header.specs.Grammar.{Label, Grammar, done, field, Outcome, stops, read, unless_wrong, lacking, Field, fields}
use Rattle.ncc_header.specs.Steps.{size_of, label_of, Advances, IsRefused}
use Rattle.ncc_header.proofs.FieldsLaws.{fields_first}
use Rattle.ncc_header.proofs.GrammarLaws.{read_field, whole_front, outcomes_are_one}

some_is : (m n : ℕ) → Some m ≡ Some n → m ≡ n
some_is m n h = cc

-- the field's bytes have come, and are not wrong
pub field_goes_on : {A : Type 0} (g h : Grammar A) (limit at n : ℕ) (held front more : List ℕ) → size_of g ≡ Some n → at + n ≤ limit → length (held ++ front) ≡ n → Advances g (held ++ front) h → read g limit at (held ++ (front ++ more)) ≡ read h limit (at + n) more
field_goes_on (done x) h limit at n held front more is within long adv = absurd adv
field_goes_on (field label size wrong next) h limit at n held front more is within long adv =
    let same : size ≡ n = some_is size n is in
    ap (read (field label size wrong next) limit at) (sym (append_assoc held front more))
    ∙ read_field label size wrong next limit at (held ++ front) more (long ∙ sym same) (omega (arith, same, within)) adv.0
    ∙ ap (λ q. read q limit (at + size) more) adv.1
    ∙ ap (λ (m : ℕ). read h limit (at + m) more) same

-- they have come, and are wrong
pub field_is_refused : {A : Type 0} (g : Grammar A) (limit at n : ℕ) (held front more : List ℕ) (w : Wrong) → size_of g ≡ Some n → at + n ≤ limit → length (held ++ front) ≡ n → IsRefused g (held ++ front) w → read g limit at (held ++ (front ++ more)) ≡ stops (at - w.back) w.kind
field_is_refused (done x) limit at n held front more w is within long ref = absurd ref
field_is_refused (field label size wrong next) limit at n held front more w is within long ref =
    let same : size ≡ n = some_is size n is in
    let whole = held ++ front in
    let enough : size ≤ length (whole ++ more) = omega (arith, same, long, length-append whole more) in
    ap (read (field label size wrong next) limit at) (sym (append_assoc held front more))
    ∙ whole_front label size wrong next limit at (whole ++ more) enough (omega (arith, same, within))
    ∙ rw (take_at whole more size (long ∙ sym same), ref) refl

-- the field ends past the limit
pub field_too_long : {A : Type 0} (g : Grammar A) (limit at n : ℕ) (input : List ℕ) → size_of g ≡ Some n → limit < at + n → read g limit at input ≡ stops at HeaderTooLong
unfolding read
field_too_long (done x) limit at n input is past = absurd cc
field_too_long (field label size wrong next) limit at n input is past = rw (lt-ltb limit (at + size) (omega (arith, some_is size n is, past))) refl

-- the input ends before the field
pub field_ends_early : {A : Type 0} (g : Grammar A) (limit at n : ℕ) (input : List ℕ) → size_of g ≡ Some n → at + n ≤ limit → length input < n → read g limit at input ≡ stops at EndsEarly
unfolding read
field_ends_early (done x) limit at n input is within short = absurd cc
field_ends_early (field label size wrong next) limit at n input is within short =
    let same : size ≡ n = some_is size n is in
    rw (le-ltb limit (at + size) (omega (arith, same, within)), lt-ltb (length input) size (omega (arith, same, short))) refl

-- ---- what lacks, and what is shown

-- a whole field that is not wrong lacks nothing
lacking_first : {A : Type 0} (label : Label) (size : ℕ) (wrong : List ℕ → Option Wrong) (next : List ℕ → Grammar A) (limit at : ℕ) (front rest : List ℕ) → length front ≡ size → at + size ≤ limit → wrong front ≡ None
    → lacking (field label size wrong next) limit at (front ++ rest) ≡ lacking (next front) limit (at + size) rest
unfolding lacking
lacking_first label size wrong next limit at front rest len le ok =
    rw (le-ltb limit (at + size) le, le-ltb (length (front ++ rest)) size (omega (arith, length-append front rest, len)), take_at front rest size len, drop_at front rest size len, ok) refl

pub lacking_goes_on : {A : Type 0} (g h : Grammar A) (limit at n : ℕ) (held front more : List ℕ) → size_of g ≡ Some n → at + n ≤ limit → length (held ++ front) ≡ n → Advances g (held ++ front) h → lacking g limit at (held ++ (front ++ more)) ≡ lacking h limit (at + n) more
lacking_goes_on (done x) h limit at n held front more is within long adv = absurd adv
lacking_goes_on (field label size wrong next) h limit at n held front more is within long adv =
    let same : size ≡ n = some_is size n is in
    ap (lacking (field label size wrong next) limit at) (sym (append_assoc held front more))
    ∙ lacking_first label size wrong next limit at (held ++ front) more (long ∙ sym same) (omega (arith, same, within)) adv.0
    ∙ ap (λ q. lacking q limit (at + size) more) adv.1
    ∙ ap (λ (m : ℕ). lacking h limit (at + m) more) same

pub fields_go_on : {A : Type 0} (g h : Grammar A) (at n : ℕ) (held front more : List ℕ) → size_of g ≡ Some n → length (held ++ front) ≡ n → Advances g (held ++ front) h → fields g at (held ++ (front ++ more)) ≡ record { label = label_of g; at = at; bytes = held ++ front } ∷ fields h (at + n) more
fields_go_on (done x) h at n held front more is long adv = absurd adv
fields_go_on (field label size wrong next) h at n held front more is long adv =
    let same : size ≡ n = some_is size n is in
    let one : Field = record { label = label; at = at; bytes = held ++ front } in
    ap (fields (field label size wrong next) at) (sym (append_assoc held front more))
    ∙ fields_first label size wrong next at (held ++ front) more (long ∙ sym same)
    ∙ ap (λ q. one ∷ fields q (at + size) more) adv.1
    ∙ ap (λ (m : ℕ). one ∷ fields h (at + m) more) same

-- a field that the input ends in lacks the rest of its bytes
pub lacking_early : {A : Type 0} (g : Grammar A) (limit at n : ℕ) (input : List ℕ) → size_of g ≡ Some n → at + n ≤ limit → length input < n → lacking g limit at input ≡ n - length input
unfolding lacking
lacking_early (done x) limit at n input is within short = absurd cc
lacking_early (field label size wrong next) limit at n input is within short =
    let same : size ≡ n = some_is size n is in
    rw (le-ltb limit (at + size) (omega (arith, same, within)), lt-ltb (length input) size (omega (arith, same, short))) (ap (λ (m : ℕ). m - length input) same)

pub lacks_nothing : {A : Type 0} (x : A) (limit at : ℕ) (input : List ℕ) → lacking (done x) limit at input ≡ 0
unfolding lacking
lacks_nothing x limit at input = refl

pub lacking_late : {A : Type 0} (g : Grammar A) (limit at n : ℕ) (input : List ℕ) → size_of g ≡ Some n → limit < at + n → lacking g limit at input ≡ 0
unfolding lacking
lacking_late (done x) limit at n input is past = absurd cc
lacking_late (field label size wrong next) limit at n input is past = rw (lt-ltb limit (at + size) (omega (arith, some_is size n is, past))) refl

-- a wrong field lacks nothing, and another lacks what the fields behind it lack
lacks_if_wrong : {A : Type 0} (w : Option Wrong) (at offset l : ℕ) (kind : FaultKind) (o : Outcome A) → unless_wrong w at o ≡ stops offset kind → (o ≡ stops offset kind → l ≡ 0) → (if is_some w then 0 else l) ≡ 0
lacks_if_wrong None at offset l kind o e h = h e
lacks_if_wrong (Some w) at offset l kind o e h = refl

same_kind : {A : Type 0} (a o : ℕ) (k l : FaultKind) (x : Outcome A) → x ≡ stops a k → x ≡ stops o l → k ≡ l
same_kind a o k l x e f = (outcomes_are_one (stops a k) (stops o l) (sym e ∙ f)).1

-- what stops for another reason than an early end lacks nothing
pub lacks_none : {A : Type 0} (g : Grammar A) (limit at : ℕ) (input : List ℕ) (offset : ℕ) (kind : FaultKind) → kind ≢ EndsEarly → read g limit at input ≡ stops offset kind → lacking g limit at input ≡ 0
unfolding read lacking
lacks_none (done x) limit at input offset kind other h = refl
lacks_none {A = A} (field label size wrong next) limit at input offset kind other h =
    elim (cases_lt limit (at + size)) [
      | inl past ↦ rw (lt-ltb limit (at + size) past) refl
      | inr within ↦ elim (cases_lt (length input) size) [
        | inl short ↦ absurd (other (sym (same_kind {A = A} at offset EndsEarly kind (stops at EndsEarly) refl (rw (le-ltb limit (at + size) within, lt-ltb (length input) size short) at h))))
        | inr long ↦
            rw (le-ltb limit (at + size) within, le-ltb (length input) size long)
            (lacks_if_wrong (wrong (take size input)) at offset _ kind (read (next (take size input)) limit (at + size) (drop size input))
            (rw (le-ltb limit (at + size) within, le-ltb (length input) size long) at h)
            (lacks_none (next (take size input)) limit (at + size) (drop size input) offset kind other))
      ]
    ]
