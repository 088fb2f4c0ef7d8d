-- The table of bytes that can follow in a name is held against the definition at each of the 256 bytes, by computing.
use Rattle.std.proofs.Common.{◌≡◌, ℕ, ◌<◌, zero, suc, Bool, true, false, ◌&&◌, get_or, refl, arith, inl, inr}
use Rattle.std.proofs.lemmas.Bool.{and_parts, cases_eq}
use Rattle.ncc_values.specs.Name.{can_follow_plain}
use Rattle.ncc_values.specs.declared.name.TheConstants.{FOLLOWS}

abbrev same : Bool → Bool → Bool
same true b = b
same false true = false
same false false = true

same_is : (a b : Bool) → same a b ≡ true → a ≡ b
same_is true true h = refl
same_is true false h = absurd cc
same_is false true h = absurd cc
same_is false false h = refl

-- a test holds of all numbers below n
unfoldable all_below : (ℕ → Bool) → ℕ → Bool
all_below test zero = true
all_below test (suc n) = test n && all_below test n

all_at : (test : ℕ → Bool) (n : ℕ) → all_below test n ≡ true → (b : ℕ) → b < n → test b ≡ true
unfolding all_below
all_at test zero h b lt = absurd (omega arith)
all_at test (suc n) h b lt =
    let parts = and_parts (test n) (all_below test n) h in
    elim (cases_eq b n) [ inl same_one ↦ rw same_one parts.0 | inr other ↦ all_at test n parts.1 b (omega arith) ]

pub follows_at : (b : ℕ) → b < 256 → get_or FOLLOWS b false ≡ can_follow_plain b
unfolding all_below
follows_at b lt = same_is (get_or FOLLOWS b false) (can_follow_plain b) (all_at (λ k. same (get_or FOLLOWS k false) (can_follow_plain k)) 256 refl b lt)
