-- The place one further on along the last index.
use Rattle.std.proofs.Common.{◌≡◌, ℕ, ◌+◌, ◌*◌, ◌<◌, Bool, true, false, cond, List, [], ◌∷◌, length, refl, ap, ◌∙◌, arith}
use Rattle.std.proofs.Math.Nat.{add-mul}
use Rattle.ncc_layout.specs.Elements.{row_major, offset_in, next_index}

pub next_number : (lengths index : List ℕ) → length index ≡ length lengths → 0 < length lengths → row_major lengths (next_index index) ≡ row_major lengths index + 1
next_number [] index same some = absurd (omega (arith, some))
next_number (l ∷ ls) [] same some = absurd (omega (arith, same))
next_number (l ∷ []) (i ∷ []) same some = omega arith
next_number (l ∷ m ∷ ls) (i ∷ []) same some = absurd (omega (arith, same))
next_number (l ∷ []) (i ∷ j ∷ is) same some = absurd (omega (arith, same))
next_number (l ∷ m ∷ ls) (i ∷ j ∷ is) same some = omega (arith, next_number (m ∷ ls) (j ∷ is) (omega (arith, same)) (omega arith))

further : (size a b : ℕ) → a ≡ b + 1 → a * size ≡ b * size + size
further size a b is = ap (λ (n : ℕ). n * size) is ∙ add-mul b 1 size ∙ (let one : b * size + 1 * size ≡ b * size + size = omega arith in one)

pub next_offset : (record_size size : ℕ) (b : Bool) (lengths index : List ℕ) → length index ≡ length lengths → cond b 1 0 < length lengths
    → offset_in record_size size b lengths (next_index index) ≡ offset_in record_size size b lengths index + size
next_offset record_size size false ls is same some = further size (row_major ls (next_index is)) (row_major ls is) (next_number ls is same some)
next_offset record_size size true [] is same some = absurd (omega (arith, some))
next_offset record_size size true (n ∷ ls) [] same some = absurd (omega (arith, same))
next_offset record_size size true (n ∷ ls) (i ∷ []) same some = absurd (omega (arith, same, some))
next_offset record_size size true (n ∷ ls) (i ∷ j ∷ is) same some =
    omega (arith, further size (row_major ls (next_index (j ∷ is))) (row_major ls (j ∷ is)) (next_number ls (j ∷ is) (omega (arith, same)) (omega (arith, some))))

pub next_record : (record_size size : ℕ) (lengths index : List ℕ) → length index ≡ length lengths → length lengths ≡ 1
    → offset_in record_size size true lengths (next_index index) ≡ offset_in record_size size true lengths index + record_size
next_record record_size size [] index same one = absurd (omega (arith, one))
next_record record_size size (n ∷ m ∷ ls) index same one = absurd (omega (arith, one))
next_record record_size size (n ∷ []) [] same one = absurd (omega (arith, same))
next_record record_size size (n ∷ []) (i ∷ j ∷ is) same one = absurd (omega (arith, same))
next_record record_size size (n ∷ []) (i ∷ []) same one = let less : (i + 1) * record_size ≡ i * record_size + record_size = further record_size (i + 1) i refl in omega (arith, less)
