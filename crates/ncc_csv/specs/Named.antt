-- The variable that a name means: the first of that name's bytes.
use Rattle.std.specs.Prelude.{◌≡◌, ℕ, ◌<◌, Option, Some, None, List, [], length, get_or}
use Rattle.ncc_values.specs.declared.xtype.XType.TheVariants.{Byte}
use Rattle.ncc_schema.specs.declared.schema.Var.{Var}

abbrev pub no_var : Var
no_var = record { name = []; dims = []; attrs = []; xtype = Byte }

abbrev pub IsNamed : List Var → (name : List ℕ) → (number : ℕ) → Type 0
IsNamed vars name n = (get_or vars n no_var).name ≡ name

-- the number of the first with this name; None where there is none
abbrev pub IsFirstNamed : List Var → (name : List ℕ) → Option ℕ → Type 0
IsFirstNamed vars name (Some n) = (n < length vars) × IsNamed vars name n × ((k : ℕ) → k < n → IsNamed vars name k → ⊥)
IsFirstNamed vars name None = (k : ℕ) → k < length vars → IsNamed vars name k → ⊥
