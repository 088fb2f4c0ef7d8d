-- Overlap: no two fixed variables share a byte, and no two record variables share one in record 0.
use Rattle.std.specs.Prelude.{◌≡◌, ℕ, ◌<◌, ◌≤◌, ◌⊎◌, List, [], ◌∷◌, Contains, Bool, true, false, Option, Some, None}
use Rattle.ncc_layout.specs.declared.extent.Extent.{Extent}
use Rattle.ncc_layout.specs.Extents.{end, fixed_of, records_of}

-- ---- the rule

-- no byte lies in both
abbrev pub Apart : Extent → Extent → Type 0
Apart d e = (byte : ℕ) → d.begin ≤ byte → byte < end d → e.begin ≤ byte → byte < end e → ⊥

-- no two of them share a byte: a rule of the fixed extents, and of those of record 0
abbrev pub NoOverlap : List Extent → Type 0
NoOverlap es = (d e : Extent) → Contains es d → Contains es e → (d.variable ≡ e.variable → ⊥) → Apart d e

-- ---- the variable that has the fault

-- by begin, and then by number
abbrev pub Before : Extent → Extent → Type 0
Before d e = (d.begin < e.begin) ⊎ ((d.begin ≡ e.begin) × (d.variable < e.variable))

-- in that order, the first that shares a byte with one before it
pub record FirstShared (es : List Extent) (number : ℕ) : Type 0 where
  pub earlier : Extent
  pub later : Extent
  pub earlier_there : Contains es earlier
  pub later_there : Contains es later
  pub number_is : later.variable ≡ number
  pub ordered : Before earlier later
  pub shared : Apart earlier later → ⊥
  pub first : (d e : Extent) → Contains es d → Contains es e → Before d e → Before e later → Apart d e

-- two fixed variables share a byte; or no two do, and two slabs of record 0 do
abbrev pub FirstOverlap : List Extent → ℕ → Type 0
FirstOverlap es n = FirstShared (fixed_of es) n ⊎ (NoOverlap (fixed_of es) × FirstShared (records_of es) n)

-- ---- what neighbours tell

abbrev pub InOrderFrom : Extent → List Extent → Type 0
InOrderFrom d [] = Unit {0}
InOrderFrom d (e ∷ es) = Before d e × InOrderFrom e es

-- each comes before the next
abbrev pub InOrder : List Extent → Type 0
InOrder [] = Unit {0}
InOrder (d ∷ es) = InOrderFrom d es

abbrev pub FirstInsideFrom : Extent → List Extent → (number : ℕ) → Type 0
FirstInsideFrom d [] n = ⊥
FirstInsideFrom d (e ∷ es) n = ((e.begin < end d) × (e.variable ≡ n)) ⊎ ((end d ≤ e.begin) × FirstInsideFrom e es n)

-- the first that begins before the one before it ends
abbrev pub FirstInside : List Extent → (number : ℕ) → Type 0
FirstInside [] n = ⊥
FirstInside (d ∷ es) n = FirstInsideFrom d es n

-- ---- what the search found

abbrev pub of_kind : Bool → List Extent → List Extent
of_kind true es = records_of es
of_kind false es = fixed_of es

abbrev pub Overlaps : List Extent → Option ℕ → Type 0
Overlaps es None = NoOverlap (fixed_of es) × NoOverlap (records_of es)
Overlaps es (Some n) = FirstOverlap es n
