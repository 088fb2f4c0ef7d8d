-- The laws of every grammar of fields, each by one induction.
use Rattle.std.proofs.Common.{◌≡◌, ℕ, ◌+◌, ◌-◌, ◌≤◌, false, ltb, List, [], ◌++◌, length, take, drop, Option, Some, None, refl, sym, ap, subst, ◌∙◌, append_assoc, arith, ◌⊎◌, inl, inr}
use Rattle.std.proofs.lemmas.Bool.{cases_lt, le-ltb, lt-ltb}
use Rattle.std.proofs.lemmas.List.{take_at, drop_at, take-append-drop, length-append, length-take-le, take-append-le, drop-append-le, length-drop, append_cancel_right}
use Rattle.ncc_values.specs.Numbers.{IsBytes}
use Rattle.ncc_values.specs.BigEndian.{bytes-take, bytes-drop}
use Rattle.ncc_header.specs.declared.fault.FaultKind.{FaultKind}
use Rattle.ncc_header.specs.declared.fault.FaultKind.TheVariants.{HeaderTooLong, EndsEarly}
use Rattle.ncc_header.specs.declared.fault.Wrong.{Wrong}
use Rattle.ncc_header.specs.Grammar.{Label, Grammar, done, field, Spells, Outcome, reads, stops, read, unless_wrong, ◌>>=◌}

-- ---- one field

pub read_field : {A : Type 0} (label : Label) (size : ℕ) (wrong : List ℕ → Option Wrong) (next : List ℕ → Grammar A) (limit at : ℕ) (front rest : List ℕ) → length front ≡ size → at + size ≤ limit → wrong front ≡ None
    → read (field label size wrong next) limit at (front ++ rest) ≡ read (next front) limit (at + size) rest
unfolding read
read_field label size wrong next limit at front rest len le ok =
    let within : ltb limit (at + size) ≡ false = le-ltb _ _ le in
    let long : ltb (length (front ++ rest)) size ≡ false = le-ltb _ _ (omega (arith, length-append front rest)) in
    rw (within, long, take_at front rest size len, drop_at front rest size len, ok) refl

-- what is spelled within the limit is read, whatever follows
pub spelled-is_read : {A : Type 0} (g : Grammar A) (a : A) (b rest : List ℕ) (limit at : ℕ) → Spells g a b → at + length b ≤ limit → read g limit at (b ++ rest) ≡ reads a (at + length b) rest
unfolding read
spelled-is_read (done x) a b rest limit at h le =
    rw (h.0, h.1) (ap (λ (n : ℕ). reads a n rest) (omega arith))
spelled-is_read (field label size wrong next) a b rest limit at h le =
    let len : length b ≡ size + length h.1 = ap length h.2 ∙ length-append h.0 h.1 ∙ ap (λ (n : ℕ). n + length h.1) h.3 in
    let parts : b ++ rest ≡ h.0 ++ (h.1 ++ rest) = ap (λ (x : List ℕ). x ++ rest) h.2 ∙ append_assoc h.0 h.1 rest in
    ap (read (field label size wrong next) limit at) parts
    ∙ read_field label size wrong next limit at h.0 (h.1 ++ rest) h.3 (omega (arith, le, len)) h.5
    ∙ spelled-is_read (next h.0) a h.1 rest limit (at + size) h.6 (omega (arith, le, len))
    ∙ ap (λ (n : ℕ). reads a n rest) (omega (arith, len))

-- the value, the end and the rest that were read
abbrev values_same : {A : Type 0} → Outcome A → Outcome A → Type 0
values_same (reads a e r) (reads b f s) = (a ≡ b) × (e ≡ f) × (r ≡ s)
values_same (stops o r) (stops p s) = (o ≡ p) × (r ≡ s)
values_same _ _ = ⊥

same_refl : {A : Type 0} (x : Outcome A) → values_same x x
same_refl (reads a e r) = (refl, refl, refl)
same_refl (stops o r) = (refl, refl)

pub outcomes_are_one : {A : Type 0} (x y : Outcome A) → x ≡ y → values_same x y
outcomes_are_one {A = A} x y e = subst (λ (z : Outcome A). values_same x z) e (same_refl x)

-- One input begins with one spelling of one value.
pub one_spelling : {A : Type 0} (g : Grammar A) (a c : A) (b d x y : List ℕ) → Spells g a b → Spells g c d → b ++ x ≡ d ++ y → (a ≡ c) × (b ≡ d)
one_spelling g a c b d x y h k e =
    let limit = length b + length d in
    let first : read g limit 0 (b ++ x) ≡ reads a (0 + length b) x = spelled-is_read g a b x limit 0 h (omega arith) in
    let second : read g limit 0 (d ++ y) ≡ reads c (0 + length d) y = spelled-is_read g c d y limit 0 k (omega arith) in
    let same = outcomes_are_one (reads a (0 + length b) x) (reads c (0 + length d) y) (sym first ∙ ap (read g limit 0) e ∙ second) in
    (same.0, append_cancel_right b d x (e ∙ ap (λ (z : List ℕ). d ++ z) (sym same.2)))

-- ---- what is read is spelled

-- a front of the input that ends at end spells a
abbrev pub ReadAs : {A : Type 0} → Grammar A → (limit at : ℕ) → List ℕ → A → (end : ℕ) → List ℕ → Type 0
ReadAs g limit at input a end rest = (b : List ℕ) × (input ≡ b ++ rest) × Spells g a b × (end ≡ at + length b) × (at ≤ limit → end ≤ limit) × IsBytes rest

went_on : {A : Type 0} (o : Option Wrong) (at : ℕ) (onward : Outcome A) (a : A) (end : ℕ) (rest : List ℕ) → unless_wrong o at onward ≡ reads a end rest → (o ≡ None) × (onward ≡ reads a end rest)
went_on None at onward a end rest e = (refl, e)
went_on (Some w) at onward a end rest e = absurd (outcomes_are_one (stops (at - w.back) w.kind) (reads a end rest) e)

pub read-is_spelled : {A : Type 0} (g : Grammar A) (limit at : ℕ) (input : List ℕ) (a : A) (end : ℕ) (rest : List ℕ) → IsBytes input → read g limit at input ≡ reads a end rest → ReadAs g limit at input a end rest
unfolding read
read-is_spelled (done x) limit at input a end rest bytes e =
    let same = outcomes_are_one (reads x at input) (reads a end rest) e in
    ([], same.2, (same.0, refl), omega (arith, same.1), λ le. omega (arith, same.1), subst IsBytes same.2 bytes)
read-is_spelled {A = A} (field label size wrong next) limit at input a end rest bytes e =
    let onward = read (next (take size input)) limit (at + size) (drop size input) in
    elim (cases_lt limit (at + size)) [
      | inl past ↦ absurd (outcomes_are_one (stops at HeaderTooLong) (reads a end rest) (rw (lt-ltb limit (at + size) past) at e))
      | inr within ↦ elim (cases_lt (length input) size) [
        | inl short ↦ absurd (outcomes_are_one (stops at EndsEarly) (reads a end rest) (rw (le-ltb limit (at + size) within, lt-ltb (length input) size short) at e))
        | inr long ↦
            let judged : unless_wrong (wrong (take size input)) at onward ≡ reads a end rest = rw (le-ltb limit (at + size) within, le-ltb (length input) size long) at e in
            let j = went_on (wrong (take size input)) at onward a end rest judged in
            let r = read-is_spelled (next (take size input)) limit (at + size) (drop size input) a end rest (bytes-drop size input bytes) j.1 in
            let len : length (take size input) ≡ size = length-take-le size input long in (
              take size input ++ r.0,
              sym (take-append-drop size input) ∙ ap (λ (t : List ℕ). take size input ++ t) r.1 ∙ sym (append_assoc (take size input) r.0 rest),
              (take size input, r.0, refl, len, bytes-take size input bytes, j.0, r.2),
              omega (arith, r.3, len, length-append (take size input) r.0),
              λ le. r.4 within,
              r.5,
            )
      ]
    ]

-- ---- a value or one stop

abbrev pub StopsAt : {A : Type 0} → Grammar A → List ℕ → (limit offset : ℕ) → FaultKind → Type 0
StopsAt g input limit offset kind = read g limit 0 input ≡ stops offset kind

-- some front of the input, of at most limit bytes, spells a value
abbrev pub BeginsWithin : {A : Type 0} → Grammar A → List ℕ → (limit : ℕ) → Type 0
BeginsWithin {A = A} g input limit = (a : A) × (b : List ℕ) × (rest : List ℕ) × (input ≡ b ++ rest) × Spells g a b × (length b ≤ limit)

-- Each input begins with a spelling within the limit, or it stops.
pub begins_or_stops : {A : Type 0} (g : Grammar A) (input : List ℕ) (limit : ℕ) → IsBytes input → BeginsWithin g input limit ⊎ ((offset : ℕ) × (kind : FaultKind) × StopsAt g input limit offset kind)
begins_or_stops {A = A} g input limit bytes = by_outcome (read g limit 0 input) refl
  where
    by_outcome : (o : Outcome A) → read g limit 0 input ≡ o → BeginsWithin g input limit ⊎ ((offset : ℕ) × (kind : FaultKind) × StopsAt g input limit offset kind)
    by_outcome (reads a end rest) e = let r = read-is_spelled g limit 0 input a end rest bytes e in inl (a, r.0, rest, r.1, r.2, omega (arith, r.3, r.4))
    by_outcome (stops offset kind) e = inr (offset, kind, e)

-- Never both.
pub not_both : {A : Type 0} (g : Grammar A) (input : List ℕ) (limit offset : ℕ) (kind : FaultKind) → BeginsWithin g input limit → StopsAt g input limit offset kind → ⊥
not_both g input limit offset kind b s =
    outcomes_are_one (reads b.0 (0 + length b.1) b.2) (stops offset kind) (sym (spelled-is_read g b.0 b.1 b.2 limit 0 b.4 (omega (arith, b.5))) ∙ ap (read g limit 0) (sym b.3) ∙ s)

-- One stop.
pub one_stop : {A : Type 0} (g : Grammar A) (input : List ℕ) (limit o p : ℕ) (r s : FaultKind) → StopsAt g input limit o r → StopsAt g input limit p s → (o ≡ p) × (r ≡ s)
one_stop {A = A} g input limit o p r s h k = let same : values_same {A = A} (stops o r) (stops p s) = outcomes_are_one (stops o r) (stops p s) (sym h ∙ k) in same

-- ---- more bytes

-- a field that is whole stays as it is
pub whole_front : {A : Type 0} (label : Label) (size : ℕ) (wrong : List ℕ → Option Wrong) (next : List ℕ → Grammar A) (limit at : ℕ) (input : List ℕ) → size ≤ length input → at + size ≤ limit
    → read (field label size wrong next) limit at input ≡ unless_wrong (wrong (take size input)) at (read (next (take size input)) limit (at + size) (drop size input))
unfolding read
whole_front label size wrong next limit at input long within = rw (le-ltb limit (at + size) within, le-ltb (length input) size long) refl

stays-if_wrong : {A : Type 0} (w : Option Wrong) (at offset : ℕ) (kind : FaultKind) (x y : Outcome A) → unless_wrong w at x ≡ stops offset kind → (x ≡ stops offset kind → y ≡ stops offset kind) → unless_wrong w at y ≡ stops offset kind
stays-if_wrong None at offset kind x y h k = k h
stays-if_wrong (Some w) at offset kind x y h k = h

-- A stop other than by the input's end stays, whatever follows.
pub stop_stays : {A : Type 0} (g : Grammar A) (limit at : ℕ) (input more : List ℕ) (offset : ℕ) (kind : FaultKind) → (kind ≡ EndsEarly → ⊥) → read g limit at input ≡ stops offset kind → read g limit at (input ++ more) ≡ stops offset kind
unfolding read
stop_stays (done x) limit at input more offset kind other h = absurd (outcomes_are_one (reads x at input) (stops offset kind) h)
stop_stays {A = A} (field label size wrong next) limit at input more offset kind other h =
    elim (cases_lt limit (at + size)) [
      | inl past ↦ rw (lt-ltb limit (at + size) past) (rw (lt-ltb limit (at + size) past) at h)
      | inr within ↦ elim (cases_lt (length input) size) [
        | inl short ↦
            let same : values_same {A = A} (stops at EndsEarly) (stops offset kind) = outcomes_are_one (stops at EndsEarly) (stops offset kind) (rw (le-ltb limit (at + size) within, lt-ltb (length input) size short) at h) in
            absurd (other (sym same.1))
        | inr long ↦
            let fronts : take size (input ++ more) ≡ take size input = take-append-le size input more long in
            let backs : drop size (input ++ more) ≡ drop size input ++ more = drop-append-le size input more long in
            whole_front label size wrong next limit at (input ++ more) (omega (arith, length-append input more)) within
            ∙ rw (fronts, backs) (stays-if_wrong (wrong (take size input)) at offset kind _ _ (sym (whole_front label size wrong next limit at input long within) ∙ h)
            (stop_stays (next (take size input)) limit (at + size) (drop size input) more offset kind other))
      ]
    ]

-- A stop stays, whatever follows, once all bytes within the limit are there.
pub limit_covers : {A : Type 0} (g : Grammar A) (limit at : ℕ) (input more : List ℕ) (offset : ℕ) (kind : FaultKind) → limit ≤ at + length input → read g limit at input ≡ stops offset kind → read g limit at (input ++ more) ≡ stops offset kind
unfolding read
limit_covers (done x) limit at input more offset kind covered h = absurd (outcomes_are_one (reads x at input) (stops offset kind) h)
limit_covers {A = A} (field label size wrong next) limit at input more offset kind covered h =
    elim (cases_lt limit (at + size)) [
      | inl past ↦ rw (lt-ltb limit (at + size) past) (rw (lt-ltb limit (at + size) past) at h)
      | inr within ↦
          let long : size ≤ length input = omega (arith, covered, within) in
          let fronts : take size (input ++ more) ≡ take size input = take-append-le size input more long in
          let backs : drop size (input ++ more) ≡ drop size input ++ more = drop-append-le size input more long in
          whole_front label size wrong next limit at (input ++ more) (omega (arith, length-append input more, long)) within
          ∙ rw (fronts, backs) (stays-if_wrong (wrong (take size input)) at offset kind _ _ (sym (whole_front label size wrong next limit at input long within) ∙ h)
          (limit_covers (next (take size input)) limit (at + size) (drop size input) more offset kind (omega (arith, covered, length-drop size input, long))))
    ]

-- ---- joining

-- A spelling of a joining is a spelling of its first part, and then one of the rest.
abbrev pub Joined : {A B : Type 0} → Grammar A → (A → Grammar B) → B → List ℕ → Type 0
Joined {A = A} g f c b = (a : A) × (x : List ℕ) × (y : List ℕ) × (b ≡ x ++ y) × Spells g a x × Spells (f a) c y

pub joined : {A B : Type 0} (g : Grammar A) (f : A → Grammar B) (c : B) (b : List ℕ) → Spells (g >>= f) c b → Joined g f c b
joined (done x) f c b h = (x, [], b, refl, (refl, refl), h)
joined (field label size wrong next) f c b h =
    let j = joined (next h.0) f c h.1 h.6 in
    (j.0, h.0 ++ j.1, j.2, h.2 ∙ ap (λ (t : List ℕ). h.0 ++ t) j.3 ∙ sym (append_assoc h.0 j.1 j.2), (h.0, j.1, refl, h.3, h.4, h.5, j.4), j.5)

pub join : {A B : Type 0} (g : Grammar A) (f : A → Grammar B) (a : A) (c : B) (x y : List ℕ) → Spells g a x → Spells (f a) c y → Spells (g >>= f) c (x ++ y)
join (done z) f a c x y h k = rw (h.1) (subst (λ w. Spells (f w) c y) (sym h.0) k)
join (field label size wrong next) f a c x y h k =
    (h.0, h.1 ++ y, ap (λ (t : List ℕ). t ++ y) h.2 ∙ append_assoc h.0 h.1 y, h.3, h.4, h.5, join (next h.0) f a c h.1 y h.6 k)
