-- How many digits a number has.
use Rattle.std.proofs.Common.{◌≡◌, ℕ, ◌+◌, ◌-◌, ◌*◌, ◌/◌, ◌^◌, ◌<◌, ◌≤◌, length, decimal, inl, inr, ap, arith, div-lt_iff_lt-mul}
use Rattle.std.proofs.lemmas.Bool.{cases_lt}
use Rattle.std.proofs.lemmas.Fmt.{length-decimal-le, decimal_is_IsNumeral}
use Rattle.std.proofs.lemmas.Int.Digits.{digits_value-lt}
use Rattle.std.proofs.lemmas.Nat.{pow-add}
use Rattle.std.proofs.Math.Nat.{pow-le-pow_right, div-eq_of_lt}
use Rattle.ncc_decimal.proofs.Ranges.{ten_to_pos}

pub below_ten_to : (d : ℕ) → d < 2 ^ 64 → d < 10 ^ length (decimal d)
below_ten_to d D = let n = decimal_is_IsNumeral d D in omega (arith, n.1, digits_value-lt 10 (decimal d) n.0.1)

-- what stands before the last f digits
pub front_length : (d f : ℕ) → d < 2 ^ 64 → f < length (decimal d) → length (decimal (d / 10 ^ f)) + f ≤ length (decimal d)
front_length d f D F =
    let n = length (decimal d) in
    let parts : f + (n - f) ≡ n = omega arith in
    let power : 10 ^ n ≡ 10 ^ f * 10 ^ (n - f) = omega (arith, ap (λ x. 10 ^ x) parts, pow-add 10 f (n - f)) in
    let less : d / 10 ^ f < 10 ^ (n - f) = (div-lt_iff_lt-mul (ten_to_pos f)).1 (omega (arith, below_ten_to d D)) in
    let small : d / 10 ^ f < 2 ^ 64 = omega arith in
    omega (arith, length-decimal-le (n - f) (d / 10 ^ f) (omega arith) less small)

-- and nothing does where there are no more
pub no_front_length : (d f : ℕ) → d < 2 ^ 64 → length (decimal d) ≤ f → length (decimal (d / 10 ^ f)) ≤ 1
no_front_length d f D F =
    let n = length (decimal d) in
    let less : d < 10 ^ f = omega (arith, below_ten_to d D, pow-le-pow_right {n = 10} (omega arith) F) in
    let none : d / 10 ^ f ≡ 0 = div-eq_of_lt less in
    rw none (length-decimal-le 1 0 (omega arith) (omega arith) (omega arith))

-- where at most 4 zeros follow the point
pub front_lengths : (d f : ℕ) → d < 2 ^ 64 → f ≤ length (decimal d) + 4 → length (decimal (d / 10 ^ f)) + f ≤ length (decimal d) + 5
front_lengths d f D F =
    elim (cases_lt f (length (decimal d))) [
      | inl l ↦ omega (arith, front_length d f D l)
      | inr l ↦ omega (arith, no_front_length d f D l)
    ]

pub at_most_17 : (d : ℕ) → d < 10 ^ 17 → length (decimal d) ≤ 17
at_most_17 d h = length-decimal-le 17 d (omega arith) h (omega arith)

pub at_most_9 : (d : ℕ) → d < 10 ^ 9 → length (decimal d) ≤ 9
at_most_9 d h = length-decimal-le 9 d (omega arith) h (omega arith)

-- as many as an exponent has
pub few_in_exponent : (n : ℕ) → n < 1000 → length (decimal n) ≤ 3
few_in_exponent n h = length-decimal-le 3 n (omega arith) (omega arith) (omega arith)
