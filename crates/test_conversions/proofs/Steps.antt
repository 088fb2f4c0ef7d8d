-- What a step does to a name.
use Rattle.std.proofs.Common.{◌≡◌, inl, inr, ◌⊎◌, ℕ, suc, ◌-◌, ◌≤◌, List, [], ◌∷◌, length, false, Option, None, refl, subst, sym, arith}
use Rattle.std.specs.Prelude.{Result, Ok, Err, OnOk, OnErr}
use Rattle.ncc_values.specs.declared.failures.Device.{Device}
use Rattle.ncc_target.specs.Names.{NameElapses}
use Rattle.test_conversions.specs.declared.step.Step.{Step}
use Rattle.test_conversions.specs.declared.step.Step.TheVariants.{Gives, Takes, Settles}
use Rattle.test_conversions.specs.Kept.{named_of, is_named, names_of, since_of}

pub unnamed : (log : List Step) → is_named log ≡ false → named_of log ≡ None
unnamed [] is = refl
unnamed (Gives file ∷ log) is = cc
unnamed (Takes ∷ log) is = refl
unnamed (Settles ∷ log) is = unnamed log is

-- one step more is one moment more
later_steps : (t n : ℕ) → t ≤ n → suc n - t ≡ suc (n - t)
later_steps t n le = omega arith

since_step : (t : ℕ) (x : Step) (log : List Step) (c : Option (List ℕ)) → t ≤ length log
    → since_of (length (x ∷ log) - t) (x ∷ log) c → since_of (length log - t) log c ⊎ names_of (x ∷ log) c
since_step t x log c le left = swapped (subst (λ (n : ℕ). since_of n (x ∷ log) c) (later_steps t (length log) le) left) where
  swapped : names_of (x ∷ log) c ⊎ since_of (length log - t) log c → since_of (length log - t) log c ⊎ names_of (x ∷ log) c
  swapped (inl now) = inr now
  swapped (inr before) = inl before

kept_step : (t : ℕ) (x : Step) (log : List Step) (c : Option (List ℕ)) → t ≤ length log
    → since_of (length log - t) log c → since_of (length (x ∷ log) - t) (x ∷ log) c
kept_step t x log c le left =
    subst (λ (n : ℕ). since_of n (x ∷ log) c) (sym (later_steps t (length log) le)) (inr left)

module _ {S : Type 0} (log_of : S → List Step) (old new : S) (P : Option (List ℕ) → Type 0) where
  -- a step, after which what a stop may leave has P
  pub stepped : (x : Step) → log_of new ≡ x ∷ log_of old → ((c : Option (List ℕ)) → names_of (x ∷ log_of old) c → P c)
      → NameElapses (λ s. names_of (log_of s)) (λ s. length (log_of s))
      (λ s t. since_of (length (log_of s) - t) (log_of s)) old new P
  stepped x is gives = record {
    later = subst (λ (log : List Step). length (log_of old) ≤ length log) (sym is) (grown (length (log_of old)));
    now = λ c now. gives c (subst (λ (log : List Step). names_of log c) is now);
    nothing_else = λ t c le left. mapped c
        (since_step t x (log_of old) c le (subst (λ (log : List Step). since_of (length log - t) log c) is left));
    keeps = λ t c le left. subst (λ (log : List Step). since_of (length log - t) log c) (sym is)
        (kept_step t x (log_of old) c le left);
  } where
    grown : (n : ℕ) → n ≤ suc n
    grown n = omega arith

    mapped : (c : Option (List ℕ)) → {A : Type 0} → A ⊎ names_of (x ∷ log_of old) c → A ⊎ P c
    mapped c (inl before) = inl before
    mapped c (inr now) = inr (gives c now)

  -- or none
  pub noted : (x : Step) (r : Result (Unit {0}) Device) → OnOk r (log_of new ≡ x ∷ log_of old)
      → OnErr r (log_of new ≡ log_of old) → ((c : Option (List ℕ)) → names_of (x ∷ log_of old) c → P c)
      → ((c : Option (List ℕ)) → names_of (log_of old) c → P c)
      → NameElapses (λ s. names_of (log_of s)) (λ s. length (log_of s))
      (λ s t. since_of (length (log_of s) - t) (log_of s)) old new P
  noted x (Ok u) ok err gives stays = stepped x ok gives
  noted x (Err e) ok err gives stays = record {
    later = subst (λ (log : List Step). length (log_of old) ≤ length log) (sym err) (same (length (log_of old)));
    now = λ c now. stays c (subst (λ (log : List Step). names_of log c) err now);
    nothing_else = λ t c le left. inl (subst (λ (log : List Step). since_of (length log - t) log c) err left);
    keeps = λ t c le left. subst (λ (log : List Step). since_of (length log - t) log c) (sym err) left;
  } where
    same : (n : ℕ) → n ≤ n
    same n = omega arith
