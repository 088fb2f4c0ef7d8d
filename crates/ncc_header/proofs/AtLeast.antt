-- Grammars of which a value has so many bytes at least.
use Rattle.std.proofs.Common.{◌≡◌, ℕ, zero, suc, ◌+◌, ◌-◌, ◌*◌, ◌≤◌, List, [], ◌∷◌, ◌++◌, length, take, drop, Option, Some, None, refl, arith, inl, inr}
use Rattle.std.proofs.lemmas.Bool.{cases_lt, le-ltb, lt-ltb}
use Rattle.std.proofs.lemmas.List.{length-drop}
use Rattle.ncc_header.specs.declared.fault.FaultKind.TheVariants.{HeaderTooLong, EndsEarly}
use Rattle.ncc_header.specs.declared.fault.Wrong.{Wrong}
use Rattle.ncc_header.specs.Grammar.{Label, Grammar, done, field, Outcome, reads, stops, read, unless_wrong, ◌>>=◌, repeat}
use Rattle.ncc_header.proofs.GrammarLaws.{outcomes_are_one}

abbrev IsLong : {A : Type 0} → Grammar A → ℕ → Type 0
IsLong (done x) n = n ≡ 0
IsLong (field label size wrong next) n = (b : List ℕ) → IsLong (next b) (n - size)

long_fewer : {A : Type 0} (g : Grammar A) (m n : ℕ) → m ≤ n → IsLong g n → IsLong g m
long_fewer (done x) m n le h = omega (arith, le, h)
long_fewer (field label size wrong next) m n le h = λ b. long_fewer (next b) (m - size) (n - size) (omega (arith, le)) (h b)

long_none : {A : Type 0} (g : Grammar A) → IsLong g 0
long_none (done x) = refl
long_none (field label size wrong next) = λ b. long_fewer (next b) (0 - size) 0 (omega arith) (long_none (next b))

long_both : {A B : Type 0} (g : Grammar A) (f : A → Grammar B) (m n : ℕ) → IsLong g m → ((a : A) → IsLong (f a) n) → IsLong (g >>= f) (m + n)
long_both (done x) f m n h k = long_fewer (f x) (m + n) n (omega (arith, h)) (k x)
long_both (field label size wrong next) f m n h k = λ b. long_fewer (next b >>= f) ((m + n) - size) ((m - size) + n) (omega arith) (long_both (next b) f (m - size) n (h b) k)

-- each value has n bytes at least
pub record AtLeast {A : Type 0} (g : Grammar A) (n : ℕ) : Type 0 where
  is : IsLong g n

pub fewer : {A : Type 0} {g : Grammar A} (m n : ℕ) → m ≤ n → AtLeast g n → AtLeast g m
fewer {g = g} m n le h = record { is = long_fewer g m n le h.is }

pub none : {A : Type 0} (g : Grammar A) → AtLeast g 0
none g = record { is = long_none g }

pub both : {A B : Type 0} (g : Grammar A) (f : A → Grammar B) (m n : ℕ) → AtLeast g m → ((a : A) → AtLeast (f a) n) → AtLeast (g >>= f) (m + n)
both g f m n h k = record { is = long_both g f m n h.is (λ a. (k a).is) }

-- the first part alone
pub front : {A B : Type 0} (g : Grammar A) (f : A → Grammar B) (m : ℕ) → AtLeast g m → AtLeast (g >>= f) m
front g f m h = fewer m (m + 0) (omega arith) (both g f m 0 h (λ a. none (f a)))

pub one : {A : Type 0} (label : Label) (size : ℕ) (wrong : List ℕ → Option Wrong) (next : List ℕ → Grammar A) → AtLeast (field label size wrong next) size
one label size wrong next = record { is = λ b. long_fewer (next b) (size - size) 0 (omega arith) (long_none (next b)) }

pub each : {A : Type 0} (item : List A → Grammar A) (m : ℕ) → ((before : List A) → AtLeast (item before) m) → (before : List A) (k : ℕ) → AtLeast (repeat item before k) (k * m)
each item m h before zero = fewer (0 * m) 0 (omega arith) (none (done before))
each item m h before (suc k) = fewer (suc k * m) (m + k * m) (omega arith) (both (item before) (λ a. repeat item (before ++ a ∷ []) k) m (k * m) (h before) (λ a. each item m h (before ++ a ∷ []) k))

-- the next field, and what follows it
went_on : {A : Type 0} (w : Option Wrong) (at : ℕ) (onward : Outcome A) (a : A) (end : ℕ) (rest : List ℕ) → unless_wrong w at onward ≡ reads a end rest → onward ≡ reads a end rest
went_on None at onward a end rest e = e
went_on (Some w) at onward a end rest e = absurd (outcomes_are_one (stops (at - w.back) w.kind) (reads a end rest) e)

-- what is read is that long
reads_long : {A : Type 0} (g : Grammar A) (n limit at : ℕ) (input : List ℕ) (a : A) (end : ℕ) (rest : List ℕ) → IsLong g n → read g limit at input ≡ reads a end rest → n ≤ length input
unfolding read
reads_long (done x) n limit at input a end rest h e = omega (arith, h)
reads_long {A = A} (field label size wrong next) n limit at input a end rest h e =
    elim (cases_lt limit (at + size)) [
      | inl past ↦ absurd (outcomes_are_one (stops at HeaderTooLong) (reads a end rest) (rw (lt-ltb limit (at + size) past) at e))
      | inr within ↦ elim (cases_lt (length input) size) [
        | inl short ↦ absurd (outcomes_are_one (stops at EndsEarly) (reads a end rest) (rw (le-ltb limit (at + size) within, lt-ltb (length input) size short) at e))
        | inr long ↦
            let onward = read (next (take size input)) limit (at + size) (drop size input) in
            let judged : unless_wrong (wrong (take size input)) at onward ≡ reads a end rest = rw (le-ltb limit (at + size) within, le-ltb (length input) size long) at e in
            omega (
              arith,
              length-drop size input,
              reads_long (next (take size input)) (n - size) limit (at + size) (drop size input) a end rest (h (take size input)) (went_on (wrong (take size input)) at onward a end rest judged),
            )
      ]
    ]

pub reads_at_least : {A : Type 0} (g : Grammar A) (n limit at : ℕ) (input : List ℕ) (a : A) (end : ℕ) (rest : List ℕ) → AtLeast g n → read g limit at input ≡ reads a end rest → n ≤ length input
reads_at_least g n limit at input a end rest h e = reads_long g n limit at input a end rest h.is e
