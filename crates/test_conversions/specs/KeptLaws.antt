-- Laws of `Target` for what is kept: an implementation can cite them only in specs/.
use Rattle.std.proofs.Common.{inl, ℕ, zero, suc, ◌-◌, List, [], ◌∷◌, length, Option, refl, subst}
use Rattle.std.proofs.Math.Nat.{sub_self}
use Rattle.test_conversions.specs.declared.step.Step.{Step}
use Rattle.test_conversions.specs.declared.step.Step.TheVariants.{Gives, Takes, Settles}
use Rattle.test_conversions.specs.Kept.{named_of, names_of, since_of}

pub name_stands : (log : List Step) → names_of log (named_of log)
name_stands [] = refl
name_stands (Gives file ∷ log) = inl refl
name_stands (Takes ∷ log) = inl refl
name_stands (Settles ∷ log) = refl

pub now_since : (steps : ℕ) (log : List Step) (c : Option (List ℕ)) → names_of log c → since_of steps log c
now_since zero log c now = now
now_since (suc n) [] c now = now
now_since (suc n) (x ∷ log) c now = inl now

pub since_now : (log : List Step) (c : Option (List ℕ)) → since_of (length log - length log) log c → names_of log c
since_now log c left = subst (λ (n : ℕ). since_of n log c) (sub_self (length log)) left
