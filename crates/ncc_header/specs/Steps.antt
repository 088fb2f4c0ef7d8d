-- What a step over the next field does.
use Rattle.std.specs.Prelude.{◌≡◌, ℕ, ◌+◌, ◌≤◌, List, [], ◌∷◌, ◌++◌, length, unwrap_or, Option, Some, None, Result, Ok, Err}
use Rattle.ncc_header.specs.declared.partial.Partial.{Partial}
use Rattle.ncc_header.specs.declared.partial.Next.{Next}
use Rattle.ncc_header.specs.declared.fault.StepError.{StepError}
use Rattle.ncc_header.specs.declared.fault.StepError.TheVariants as errors
use Rattle.ncc_header.specs.declared.fault.Wrong.{Wrong}
use Rattle.ncc_header.specs.Grammar.{Label, Plain, Begin, Grammar, done, field}
use Rattle.ncc_header.specs.Left.{left_of, begins_of, come_of, front_of, first_at}

-- ---- any grammar

-- the size of the next field, if there is one
abbrev pub size_of : {A : Type 0} → Grammar A → Option ℕ
size_of (done a) = None
size_of (field label size wrong next) = Some size

abbrev pub label_of : {A : Type 0} → Grammar A → Label
label_of (done a) = Plain
label_of (field label size wrong next) = label

-- the next field is these bytes, which are not wrong, and then g is left
abbrev pub Advances : {A : Type 0} → Grammar A → (front : List ℕ) → Grammar A → Type 0
Advances (done a) front g = ⊥
Advances (field label size wrong next) front g = (wrong front ≡ None) × (next front ≡ g)

-- the next field is these bytes, which are wrong
abbrev pub IsRefused : {A : Type 0} → Grammar A → (front : List ℕ) → Wrong → Type 0
IsRefused (done a) front w = ⊥
IsRefused (field label size wrong next) front w = wrong front ≡ Some w

-- where the begin fields were, this one too
abbrev pub with_begin : Label → (at : ℕ) → List ℕ → List ℕ
with_begin Begin at ats = ats ++ at ∷ []
with_begin _ at ats = ats

-- what a value is judged for: nothing wrong, or what is wrong
abbrev pub Judges : {T : Type 0} → Option Wrong → Result T Wrong → Type 0
Judges w (Ok x) = w ≡ None
Judges w (Err e) = w ≡ Some e

-- ---- the header's

-- the next field, at this offset, was these bytes, and now another one is next
pub record StepsTo (next : Next) (old : Partial) (at : ℕ) (front : List ℕ) (after : Next) (new : Partial) : Type 0 where
  pub advances : Advances (left_of next old) front (left_of after new)
  pub begins : begins_of after new.lists.vars ≡ with_begin (label_of (left_of next old)) at (begins_of next old.lists.vars)
  pub fresh : come_of after new ≡ []
  pub first : first_at after ≤ first_at next + length front

-- A step takes the next field, or refuses it, unless memory is refused.
abbrev pub Steps : Next → (old : Partial) → (at : ℕ) → (front : List ℕ) → Result Next StepError → (new : Partial) → Type 0
Steps next old at front (Ok after) new = StepsTo next old at front after new
Steps next old at front (Err (errors.Wrong w)) new = IsRefused (left_of next old) front w
Steps next old at front (Err errors.Memory) new = 12 ≤ first_at next

abbrev pub next_size : Next → Partial → ℕ
next_size next b = unwrap_or (size_of (left_of next b)) 0

abbrev pub held_length : Next → Partial → (held : List ℕ) → ℕ
held_length next b held = length (front_of next b held)
