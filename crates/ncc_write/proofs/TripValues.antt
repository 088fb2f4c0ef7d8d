-- Values and the bytes that spell them.
use Rattle.std.proofs.Common.{◌≡◌, ℕ, ◌*◌, ◌/◌, List, length, take, drop, sym, ap, ◌∙◌, arith}
use Rattle.std.specs.Prelude.{◌%◌}
use Rattle.std.proofs.lemmas.List.{take_all}
use Rattle.ncc_values.specs.Values.{bytes_of, count_of, type_of}
use Rattle.ncc_values.specs.XType.{size_of}
use Rattle.ncc_values.specs.declared.values.Values.{Values}
use Rattle.ncc_values.specs.declared.xtype.XType.{XType}
use Rattle.ncc_values.proofs.ValuesLemmas.{length-bytes_of}
use Rattle.ncc_write.proofs.Growing.{by_size}

-- ---- sizes

abbrev IsWholeBy : ℕ → Type 0
IsWholeBy w = (n k : ℕ) → n ≡ k * w → n % w ≡ 0

pub whole_by : (t : XType) → IsWholeBy (size_of t)
whole_by t = by_size IsWholeBy (λ n k e. omega (arith, e)) (λ n k e. omega (arith, e)) (λ n k e. omega (arith, e))
    (λ n k e. omega (arith, e)) t

abbrev HasNumber : ℕ → Type 0
HasNumber w = (n k : ℕ) → n ≡ k * w → n / w ≡ k

has_number : (t : XType) → HasNumber (size_of t)
has_number t = by_size HasNumber (λ n k e. omega (arith, e)) (λ n k e. omega (arith, e)) (λ n k e. omega (arith, e))
    (λ n k e. omega (arith, e)) t

abbrev IsProduct : ℕ → Type 0
IsProduct w = (n k : ℕ) → n % w ≡ 0 → n / w ≡ k → n ≡ k * w

pub is_product : (t : XType) → IsProduct (size_of t)
is_product t = by_size IsProduct (λ n k e f. omega (arith, e, f)) (λ n k e f. omega (arith, e, f))
    (λ n k e f. omega (arith, e, f)) (λ n k e f. omega (arith, e, f)) t

-- ---- their bytes

module _ (v : Values) (bytes : List ℕ) where
  long : bytes_of v ≡ bytes → length bytes ≡ count_of v * size_of (type_of v)
  long same = ap (λ (l : List ℕ). length l) (sym same) ∙ length-bytes_of v

  pub is_whole : bytes_of v ≡ bytes → length bytes % size_of (type_of v) ≡ 0
  is_whole same = whole_by (type_of v) (length bytes) (count_of v) (long same)

  pub is_counted : bytes_of v ≡ bytes → length bytes / size_of (type_of v) ≡ count_of v
  is_counted same = has_number (type_of v) (length bytes) (count_of v) (long same)

  pub all_spelled : length bytes % size_of (type_of v) ≡ 0 → length bytes / size_of (type_of v) ≡ count_of v
      → take (length bytes) (drop (0 * size_of (type_of v)) (bytes_of v)) ≡ bytes_of v
  all_spelled whole counted =
      let none : 0 * size_of (type_of v) ≡ 0 = omega arith in
      let same = is_product (type_of v) (length bytes) (count_of v) whole counted in
      ap (λ (k : ℕ). take (length bytes) (drop k (bytes_of v))) none
      ∙ take_all (length bytes) (bytes_of v) (omega (arith, same, length-bytes_of v))
