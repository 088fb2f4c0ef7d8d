-- What a run of calls leaves under a name, where it goes on.
use Rattle.std.proofs.Common.{◌≡◌, inl, inr, ⊎_elim, ℕ, List, Bool, true, false, Option, None, refl, subst, ◌∙◌, arith}
use Rattle.ncc_target.specs.declared.entries.Entries.{Entries}
use Rattle.ncc_target.specs.Names.{NameElapses, MayLeave, IsUnnamed, IsNoneOrWhole}

-- what is told of the whole file, in other words
pub may_leave : (before P Q : Option (List ℕ) → Type 0) (made : Entries) → ((c : Option (List ℕ)) → P c → Q c)
    → (c : Option (List ℕ)) → MayLeave before P made c → MayLeave before Q made c
may_leave before P Q made turns c (inl was) = inl was
may_leave before P Q made turns c (inr (inl none)) = inr (inl none)
may_leave before P Q made turns c (inr (inr (inl whole))) = inr (inr (inl (turns c whole)))
may_leave before P Q made turns c (inr (inr (inr empty))) = inr (inr (inr empty))

pub unnamed_as : (old new : Option (List ℕ)) (P Q : Option (List ℕ) → Type 0) (made : Entries)
    → ((c : Option (List ℕ)) → P c → Q c) → IsUnnamed old new P made → IsUnnamed old new Q made
unnamed_as old new P Q made turns (inl same) = inl same
unnamed_as old new P Q made turns (inr (stuck, inl whole)) = inr (stuck, inl (turns new whole))
unnamed_as old new P Q made turns (inr (stuck, inr empty)) = inr (stuck, inr empty)

-- by whether the file was whole
pub unnamed_by : (is_whole : Bool) (old mid new : Option (List ℕ)) (P Q : Option (List ℕ) → Type 0) (made : Entries)
    → mid ≡ old → (is_whole ≡ true → IsUnnamed mid new P made) → (is_whole ≡ false → new ≡ mid)
    → (is_whole ≡ true → (c : Option (List ℕ)) → P c → Q c) → IsUnnamed old new Q made
unnamed_by true old mid new P Q made same named unnamed turns = unnamed_as old new P Q made (turns refl)
    (subst (λ (m : Option (List ℕ)). IsUnnamed m new P made) same (named refl))
unnamed_by false old mid new P Q made same named unnamed turns = inl (unnamed refl ∙ same)

module _ {S : Type 0} (names : S → Option (List ℕ) → Type 0) (moment : S → ℕ) (names_since : S → ℕ → Option (List ℕ) → Type 0) where
  -- a run after a call that named nothing
  pub named_later : (old mid new : S) (P Q : Option (List ℕ) → Type 0) (made : Entries)
      → NameElapses names moment names_since old mid (names old)
      → NameElapses names moment names_since mid new (MayLeave (names mid) P made)
      → ((c : Option (List ℕ)) → P c → Q c)
      → NameElapses names moment names_since old new (MayLeave (names old) Q made)
  named_later old mid new P Q made first second turns = record {
    later = omega (arith, first.later, second.later);
    now = λ c now. onward c (second.now c now);
    nothing_else = λ t c le left. ⊎_elim
        (λ before. ⊎_elim (λ earlier. inl earlier) (λ now. inr (inl now)) (first.nothing_else t c le before))
        (λ now. inr (onward c now))
        (second.nothing_else t c (omega (arith, le, first.later)) left);
    keeps = λ t c le left. second.keeps t c (omega (arith, le, first.later)) (first.keeps t c le left);
  } where
    onward : (c : Option (List ℕ)) → MayLeave (names mid) P made c → MayLeave (names old) Q made c
    onward c (inl was) = inl (first.now c was)
    onward c (inr (inl none)) = inr (inl none)
    onward c (inr (inr (inl whole))) = inr (inr (inl (turns c whole)))
    onward c (inr (inr (inr empty))) = inr (inr (inr empty))

  -- whatever could be there when it began
  pub none_or_whole_else : (old new : S) (P Q : Option (List ℕ) → Type 0) (made : Entries)
      → ((c : Option (List ℕ)) → names_since old (moment old) c → names old c)
      → NameElapses names moment names_since old new (MayLeave (names old) P made)
      → ((c : Option (List ℕ)) → P c → Q c)
      → (c : Option (List ℕ)) → names_since new (moment old) c → MayLeave (names old) Q made c
  none_or_whole_else old new P Q made only run turns c left =
      ⊎_elim (λ before. inl (only c before)) (λ may. may_leave (names old) P Q made turns c may)
      (run.nothing_else (moment old) c (omega arith) left)

  -- where no file could be there when it began
  pub none_or_whole : (old new : S) (P Q : Option (List ℕ) → Type 0) (made : Entries)
      → ((c : Option (List ℕ)) → names_since old (moment old) c → names old c)
      → NameElapses names moment names_since old new (MayLeave (names old) P made)
      → ((c : Option (List ℕ)) → P c → Q c) → ((c : Option (List ℕ)) → names old c → c ≡ None)
      → (c : Option (List ℕ)) → names_since new (moment old) c → IsNoneOrWhole Q made c
  none_or_whole old new P Q made only run turns none c left =
      ⊎_elim (λ before. inl (none c (only c before))) (onward c) (run.nothing_else (moment old) c (omega arith) left) where
        onward : (c : Option (List ℕ)) → MayLeave (names old) P made c → IsNoneOrWhole Q made c
        onward c (inl was) = inl (none c was)
        onward c (inr (inl is)) = inl is
        onward c (inr (inr (inl whole))) = inr (inl (turns c whole))
        onward c (inr (inr (inr empty))) = inr (inr empty)
