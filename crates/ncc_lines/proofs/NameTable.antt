-- The table of names is held against the definition at each of the 256 bytes, by computing.
use Rattle.std.proofs.Common.{◌≡◌, ℕ, zero, suc, ◌+◌, ◌-◌, ◌<◌, ◌≤◌, Bool, true, ◌&&◌, eqb, List, [], ◌++◌, length, take, get_or, refl, ap, sym, ◌∙◌, inl, inr, arith, length-take-le, take-take, take-add, take_at, drop_at, bytes_eq}
use Rattle.std.proofs.lemmas.Bool.{cases_eq, eqb-true, and_parts}
use Rattle.std.proofs.lemmas.List.{take_more, flat_map_more}
use Rattle.std.proofs.lemmas.Slice.Eq.{bytes_eq-Decides}
use Rattle.ncc_lines.specs.Words.{escaped, name_text}
use Rattle.ncc_lines.specs.declared.escapes.TheConstants.{ESCAPES, LENGTHS}

-- an entry has four bytes, and its first n are the byte as it is printed
is_entry : List ℕ → ℕ → ℕ → Bool
is_entry e n b = (eqb (length e) 4 && eqb (n - 4) 0) && bytes_eq (take n e) (escaped b)

-- a test holds of all numbers below n
unfoldable pub all_below : (ℕ → Bool) → ℕ → Bool
all_below test zero = true
all_below test (suc n) = test n && all_below test n

pub all_at : (test : ℕ → Bool) (n : ℕ) → all_below test n ≡ true → (b : ℕ) → b < n → test b ≡ true
unfolding all_below
all_at test zero h b lt = absurd (omega arith)
all_at test (suc n) h b lt =
    let parts = and_parts (test n) (all_below test n) h in
    elim (cases_eq b n) [ inl same ↦ rw same parts.0 | inr other ↦ all_at test n parts.1 b (omega arith) ]

from_test : (e : List ℕ) (n b : ℕ) → is_entry e n b ≡ true → (length e ≡ 4) × ((n ≤ 4) × (take n e ≡ escaped b))
unfolding is_entry
from_test e n b h =
    let parts = and_parts (eqb (length e) 4 && eqb (n - 4) 0) (bytes_eq (take n e) (escaped b)) h in
    let sizes = and_parts (eqb (length e) 4) (eqb (n - 4) 0) parts.0 in
    let few = eqb-true (n - 4) 0 sizes.1 in
    (eqb-true (length e) 4 sizes.0, (omega arith, (bytes_eq-Decides (take n e) (escaped b)).0 parts.1))

pub entry_at : (b : ℕ) → b < 256
    → (length (get_or ESCAPES b []) ≡ 4) × ((get_or LENGTHS b 0 ≤ 4) × (take (get_or LENGTHS b 0) (get_or ESCAPES b []) ≡ escaped b))
unfolding all_below is_entry
entry_at b lt = from_test _ _ b (all_at (λ k. is_entry (get_or ESCAPES k []) (get_or LENGTHS k 0) k) 256 refl b lt)

-- an entry is written after what was laid out, and its first n bytes count
pub entry_laid : (room laid e bytes front : List ℕ) (end n i : ℕ) → take end room ≡ front ++ name_text (take i bytes) → i < length bytes → end + 4 ≤ length room
    → take (end + 4) laid ≡ take end room ++ e → length e ≡ 4 → n ≤ 4 → take n e ≡ escaped (get_or bytes i 0)
    → take (end + n) laid ≡ front ++ name_text (take (i + 1) bytes)
entry_laid room laid e bytes front end n i so_far more fits written four few text =
    let long = length-take-le end room (omega arith) in
    sym (take-take (end + n) (end + 4) laid (omega arith)) ∙ ap (take (end + n)) written ∙ take-add end n (take end room ++ e)
    ∙ (λ j. take_at (take end room) e end long j ++ take n (drop_at (take end room) e end long j))
    ∙ (λ j. so_far j ++ text j) ∙ flat_map_more escaped front (take i bytes) (get_or bytes i 0) ∙ ap (λ (l : List ℕ). front ++ name_text l) (sym (take_more bytes i 0 more))
