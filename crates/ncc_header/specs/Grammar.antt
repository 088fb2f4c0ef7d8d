-- Grammars as sequences of fields: what bytes spell, and where and why an input stops.
use Rattle.std.specs.Prelude.{◌≡◌, ℕ, zero, suc, ◌+◌, ◌-◌, List, [], ◌∷◌, ◌++◌, length, take, drop, Option, Some, None, ltb, is_some, if◌then◌else◌}
use Rattle.ncc_values.specs.Numbers.{IsBytes}
use Rattle.ncc_header.specs.declared.fault.FaultKind.{FaultKind}
use Rattle.ncc_header.specs.declared.fault.FaultKind.TheVariants.{HeaderTooLong, EndsEarly}
use Rattle.ncc_header.specs.declared.fault.Wrong.{Wrong}

-- what a field is, for those who look for fields of a kind
pub data Label : Type 0 where
  Plain Padding CountOfTagged Begin : Label

-- Fields one after another: each has a size in bytes, a judgement of its bytes, and what follows once they are read.
pub data Grammar (A : Type 0) : Type 0 where
  done : A → Grammar A
  field : Label → (size : ℕ) → (wrong : List ℕ → Option Wrong) → (next : List ℕ → Grammar A) → Grammar A

-- b is a spelling of a
abbrev pub Spells : {A : Type 0} → Grammar A → A → List ℕ → Type 0
Spells (done x) a b = (x ≡ a) × (b ≡ [])
Spells (field label size wrong next) a b = (front rest : List ℕ) × (b ≡ front ++ rest) × (length front ≡ size) × IsBytes front × (wrong front ≡ None) × Spells (next front) a rest

-- ---- reading

-- what becomes of an input: a value, the offset where it ends and the bytes after it; or a stop
pub data Outcome (A : Type 0) : Type 0 where
  reads : A → (end : ℕ) → (rest : List ℕ) → Outcome A
  stops : (offset : ℕ) → FaultKind → Outcome A

-- where the field's value is wrong the input stops, else it goes on
abbrev pub unless_wrong : {A : Type 0} → Option Wrong → (at : ℕ) → Outcome A → Outcome A
unless_wrong None at onward = onward
unless_wrong (Some w) at onward = stops (at - w.back) w.kind

-- Each field in order: its end past the limit, else the input's end before its own, else its value.
unfoldable pub read : {A : Type 0} → Grammar A → (limit at : ℕ) → List ℕ → Outcome A
read (done a) limit at input = reads a at input
read (field label size wrong next) limit at input =
    let onward = read (next (take size input)) limit (at + size) (drop size input) in
    if ltb limit (at + size) then stops at HeaderTooLong
    else if ltb (length input) size then stops at EndsEarly
    else unless_wrong (wrong (take size input)) at onward

-- the bytes that the field in which the input ends early still lacks; none where it doesn't end early
unfoldable pub lacking : {A : Type 0} → Grammar A → (limit at : ℕ) → List ℕ → ℕ
lacking (done a) limit at input = 0
lacking (field label size wrong next) limit at input =
    let onward = lacking (next (take size input)) limit (at + size) (drop size input) in
    if ltb limit (at + size) then 0
    else if ltb (length input) size then size - length input
    else if is_some (wrong (take size input)) then 0 else onward

-- ---- the fields of a spelling

pub record Field : Type 0 where
  pub label : Label
  pub at : ℕ
  pub bytes : List ℕ

-- the fields that bytes spell, from an offset on
unfoldable pub fields : {A : Type 0} → Grammar A → (at : ℕ) → List ℕ → List Field
fields (done a) at bytes = []
fields (field label size wrong next) at bytes =
    record { label = label; at = at; bytes = take size bytes } ∷ fields (next (take size bytes)) (at + size) (drop size bytes)

-- ---- joining

infixl 10 ◌>>=◌
abbrev pub ◌>>=◌ : {A B : Type 0} → Grammar A → (A → Grammar B) → Grammar B
(done a) >>= f = f a
(field label size wrong next) >>= f = field label size wrong (λ b. next b >>= f)

infixl 11 ◌into◌
abbrev pub ◌into◌ : {A B : Type 0} → Grammar A → (A → B) → Grammar B
g into f = g >>= λ a. done (f a)

-- k more of them, each told of the ones before it
abbrev pub repeat : {A : Type 0} → (List A → Grammar A) → (before : List A) → ℕ → Grammar (List A)
repeat item before zero = done before
repeat item before (suc k) = item before >>= λ a. repeat item (before ++ a ∷ []) k
