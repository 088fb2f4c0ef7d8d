-- What stands under the name that a new file is to have, and what a stop at any moment may leave there: no file, or
-- one of these bytes.
use Rattle.std.specs.Prelude.{◌≡◌, ◌⊎◌, ℕ, ◌≤◌, true, false, List, [], Option, None, Some}
use Rattle.ncc_values.specs.Failures.{Rose}
use Rattle.ncc_target.specs.declared.entries.Entries.{Entries}
use Rattle.ncc_target.specs.declared.entries.Entry.TheVariants.{Absent, Made, Stuck}
use Rattle.ncc_target.specs.declared.entries.Linked.{Linked}
use Rattle.ncc_target.specs.declared.entries.Linked.TheVariants.{Done, Failed, Refused}

-- A call went by. What a stop may leave now has P, and so has what it might have left since t and not before.
pub record NameElapses {S : Type 0} (names : S → Option (List ℕ) → Type 0) (moment : S → ℕ) (names_since : S → ℕ → Option (List ℕ) → Type 0) (old new : S) (P : Option (List ℕ) → Type 0) : Type 0 where
  pub later : moment old ≤ moment new
  pub now : (c : Option (List ℕ)) → names new c → P c
  pub nothing_else : (t : ℕ) (c : Option (List ℕ)) → t ≤ moment old → names_since new t c → names_since old t c ⊎ P c
  pub keeps : (t : ℕ) (c : Option (List ℕ)) → t ≤ moment old → names_since old t c → names_since new t c

-- ---- calls

-- what a target made, once its part was made
abbrev pub new_part : Entries
new_part = record { part = Made; name = Absent; settled = false; unlinked = false }

-- and once the part was given the name
abbrev pub after_link : Entries → Linked → Entries
after_link e Done = record e { name = Made; unlinked = false }
after_link e Failed = e
after_link e Refused = record e { unlinked = true }

-- no file had the name, and now the part has it; or nothing is there that wasn't
abbrev pub Links : (part old new : Option (List ℕ)) → Linked → Type 0
Links part old new Done = (old ≡ None) × (new ≡ part)
Links part old new other = new ≡ old

-- any failure is counted, but that the file system has no second names
abbrev pub LinkCounts : (old new : ℕ) → Linked → Type 0
LinkCounts old new Failed = Rose old new
LinkCounts old new other = new ≡ old

-- ---- runs of calls

-- nothing was made, and a stop leaves what it might have left before
pub record Rests {S : Type 0} (named : S → Option (List ℕ)) (names : S → Option (List ℕ) → Type 0) (moment : S → ℕ) (names_since : S → ℕ → Option (List ℕ) → Type 0) (entries : S → Entries) (makes : S → ℕ) (old new : S) : Type 0 where
  pub same : named new ≡ named old
  pub leaves : NameElapses names moment names_since old new (names old)
  pub made : entries new ≡ entries old
  pub unmade : makes new ≡ makes old

-- What a stop in a run may leave: what it might have left before, no file, the whole one, or where the system takes
-- no second name one without a byte.
abbrev pub MayLeave : (before whole : Option (List ℕ) → Type 0) → (made : Entries) → Option (List ℕ) → Type 0
MayLeave before whole made c = before c ⊎ (c ≡ None) ⊎ whole c ⊎ ((made.unlinked ≡ true) × (c ≡ Some []))

-- The name is as it was, or has what couldn't be taken back: the whole file, or where the system takes no second name
-- one without a byte.
abbrev pub IsUnnamed : (old new : Option (List ℕ)) → (whole : Option (List ℕ) → Type 0) → (made : Entries) → Type 0
IsUnnamed old new whole made = (new ≡ old)
    ⊎ ((made.name ≡ Stuck) × (whole new ⊎ ((made.unlinked ≡ true) × (new ≡ Some []))))

-- The name wasn't given, and is as it was; or no file had it, and now it has the whole file, or where the system takes no
-- second name one without a byte.
abbrev pub IsGiven : (old new whole : Option (List ℕ)) → (made : Entries) → Type 0
IsGiven old new whole made = ((made.name ≡ Absent) × (new ≡ old)) ⊎ ((made.name ≡ Made) × (old ≡ None)
    × ((new ≡ whole) ⊎ ((made.unlinked ≡ true) × (new ≡ Some []))))

-- no file, the whole one, or where the system takes no second name one without a byte
abbrev pub IsNoneOrWhole : (whole : Option (List ℕ) → Type 0) → (made : Entries) → Option (List ℕ) → Type 0
IsNoneOrWhole whole made c = (c ≡ None) ⊎ whole c ⊎ ((made.unlinked ≡ true) × (c ≡ Some []))

-- the file has the name alone, and its bytes are on the disk
abbrev pub IsPublished : (made : Entries) → Type 0
IsPublished made = (made.name ≡ Made) × (made.part ≡ Absent) × (made.settled ≡ true)
