-- What stands under a name, and what a stop may leave there, by what was done to it, the newest step first.
use Rattle.std.specs.Prelude.{◌≡◌, ◌⊎◌, ℕ, zero, suc, List, [], ◌∷◌, Bool, true, false, Option, None, Some}
use Rattle.test_conversions.specs.declared.step.Step.{Step}
use Rattle.test_conversions.specs.declared.step.Step.TheVariants.{Gives, Takes, Settles}

-- no file has it before the first step
abbrev pub named_of : List Step → Option (List ℕ)
named_of [] = None
named_of (Gives file ∷ log) = Some file.items
named_of (Takes ∷ log) = None
named_of (Settles ∷ log) = named_of log

abbrev pub is_named : List Step → Bool
is_named [] = false
is_named (Gives file ∷ log) = true
is_named (Takes ∷ log) = false
is_named (Settles ∷ log) = is_named log

-- what was there since it was settled last
abbrev pub names_of : List Step → Option (List ℕ) → Type 0
names_of [] c = c ≡ None
names_of (Gives file ∷ log) c = (c ≡ Some file.items) ⊎ names_of log c
names_of (Takes ∷ log) c = (c ≡ None) ⊎ names_of log c
names_of (Settles ∷ log) c = c ≡ named_of log

-- at one of the moments before and after each of the last steps
abbrev pub since_of : (steps : ℕ) → List Step → Option (List ℕ) → Type 0
since_of zero log c = names_of log c
since_of (suc n) [] c = names_of [] c
since_of (suc n) (x ∷ log) c = names_of (x ∷ log) c ⊎ since_of n log c
