use Rattle.std.proofs.Common.{◌≡◌, ℕ, ◌+◌, ◌-◌, ◌*◌, ◌^◌, ◌<◌, ◌≤◌, pow_pos, arith}
use Rattle.std.proofs.Math.Nat.{pow-le-pow_right}
use Rattle.ncc_decimal.specs.Shortest.{tens, quarters}
use Rattle.ncc_decimal.specs.Steps.{power_at}
use Rattle.ncc_decimal.proofs.Gaps.{gap_fits}
use Rattle.ncc_decimal.proofs.Quotients.{scaled_is, small_of, gap_down}
use Rattle.ncc_decimal.proofs.decimal.scale_ends.Goals as goal

-- at these exponents the power of five is short
short_power : (k p : ℕ) → p ≡ power_at k → 1032 ≤ k → k ≤ 1075 → 5 ^ (400 - p) < 2 ^ 31
short_power k p at from to = let h : 5 ^ (400 - p) ≤ 5 ^ 13 = pow-le-pow_right {n = 5} (omega arith) {i = 400 - p} {j = 13} (omega arith) in omega (arith, h)

pub overflow_cast-five : goal.overflow_cast-five
overflow_cast-five c = let h = short_power c.args.exponent c.args.power c.requires.power (omega arith) (omega arith) in let is = c.five_to-five.ensures in record { fits = omega (arith, h, is) }

pub returns-then-exponent-le1075-clause-below : goal.returns-then-exponent-le1075-clause-below
returns-then-exponent-le1075-clause-below c =
    let k = c.args.exponent in
    let p = c.args.power in
    let at : p ≡ power_at k = c.requires.power in
    let down = 400 - p in
    scaled_is (4 * c.args.significand - c.args.near) (5 ^ down) _ k p c.shifted_short.result (gap_down k down _ p (omega arith) (omega arith)) (pow_pos _) (rw c.five_to-five.ensures at c.shifted_short.ensures)

pub returns-then-exponent-le1075-clause-twice : goal.returns-then-exponent-le1075-clause-twice
returns-then-exponent-le1075-clause-twice c =
    let k = c.args.exponent in
    let p = c.args.power in
    let at : p ≡ power_at k = c.requires.power in
    let down = 400 - p in
    scaled_is (8 * c.args.significand) (5 ^ down) _ k p c.shifted_short-then-exponent-le1075.result (gap_down k down _ p (omega arith) (omega arith)) (pow_pos _) (rw c.five_to-five.ensures at c.shifted_short-then-exponent-le1075.ensures)

pub returns-then-exponent-le1075-clause-above : goal.returns-then-exponent-le1075-clause-above
returns-then-exponent-le1075-clause-above c =
    let k = c.args.exponent in
    let p = c.args.power in
    let at : p ≡ power_at k = c.requires.power in
    let down = 400 - p in
    scaled_is (4 * c.args.significand + 2) (5 ^ down) _ k p c.shifted_short-then-exponent-le1075-2.result (gap_down k down _ p (omega arith) (omega arith)) (pow_pos _) (rw c.five_to-five.ensures at c.shifted_short-then-exponent-le1075-2.ensures)

pub shifted_short-requires : goal.shifted_short-requires
shifted_short-requires c =
    let h = short_power c.args.exponent c.args.power c.requires.power (omega arith) (omega arith) in
    (omega arith, rw c.five_to-five.ensures h, omega arith)

pub shifted_short-requires-then-exponent-le1075 : goal.shifted_short-requires-then-exponent-le1075
shifted_short-requires-then-exponent-le1075 c =
    let h = short_power c.args.exponent c.args.power c.requires.power (omega arith) (omega arith) in
    (omega arith, rw c.five_to-five.ensures h, omega arith)

pub shifted_short-requires-then-exponent-le1075-2 : goal.shifted_short-requires-then-exponent-le1075-2
shifted_short-requires-then-exponent-le1075-2 c =
    let h = short_power c.args.exponent c.args.power c.requires.power (omega arith) (omega arith) in
    (omega arith, rw c.five_to-five.ensures h, omega arith)

pub returns-then-exponent-le1075-clause-small : goal.returns-then-exponent-le1075-clause-small
returns-then-exponent-le1075-clause-small c =
    let k = c.args.exponent in
    let p = c.args.power in
    let m = c.args.significand in
    let at : p ≡ power_at k = c.requires.power in
    let fits : quarters k < 5 * tens p = rw at (gap_fits k (omega arith)).1 in (
      small_of (4 * m - c.args.near) k p c.shifted_short.result (omega arith) fits (returns-then-exponent-le1075-clause-below c),
      small_of (8 * m) k p c.shifted_short-then-exponent-le1075.result (omega arith) fits (returns-then-exponent-le1075-clause-twice c),
      small_of (4 * m + 2) k p c.shifted_short-then-exponent-le1075-2.result (omega arith) fits (returns-then-exponent-le1075-clause-above c),
    )
