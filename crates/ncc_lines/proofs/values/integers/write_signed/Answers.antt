use Rattle.std.proofs.Common.{◌≡◌, ◌+◌, ◌-◌, ◌∷◌, ◌++◌, arith, ap, decimal, drop, length, List, ℕ, to_z-of_z}
use Rattle.std.specs.Fmt.{signed_decimal}
use Rattle.std.proofs.lemmas.Fmt.{length-decimal-le, length_signed_le}
use Rattle.std.proofs.lemmas.List.{drop-set}
use Rattle.itoa.proofs.Decimal.{minus_first}
use Rattle.ncc_lines.proofs.values.integers.write_signed.Goals as goal

pub write_digits-start-requires : goal.write_digits-start-requires
write_digits-start-requires c = (omega (arith, length-decimal-le 19 c.args.magnitude (omega arith) (omega arith) (omega arith)), omega (arith, c.requires.room.1))

pub overflow_sub-room : goal.overflow_sub-room
overflow_sub-room c = omega (arith, length-decimal-le 19 c.args.magnitude (omega arith) (omega arith) (omega arith))

pub overflow_sub-result : goal.overflow_sub-result
overflow_sub-result c = omega (arith, length-decimal-le 19 c.args.magnitude (omega arith) (omega arith) (omega arith))

pub returns-clause-start : goal.returns-clause-start
returns-clause-start c =
    let w = c.write_digits-start in
    let long = length-decimal-le 19 c.args.magnitude (omega arith) (omega arith) (omega arith) in
    let back = to_z-of_z c.ranges.n in
    let digits : 45 ∷ decimal c.args.magnitude ≡ signed_decimal c.args.n = rw c.requires.magnitude.0 (minus_first c.args.n (rw back at c.if-n-ge0.false)) in
    omega (arith, w.ensures.start, ap (λ (t : List ℕ). length t) digits)

pub returns-clause-written : goal.returns-clause-written
returns-clause-written c =
    let w = c.write_digits-start in
    let long = length-decimal-le 19 c.args.magnitude (omega arith) (omega arith) (omega arith) in
    let e : w.result - 1 + 1 ≡ w.result = omega arith in
    let back = to_z-of_z c.ranges.n in
    rw (drop-set w.new.buf (w.result - 1) 45 (omega arith), e, w.ensures.written, c.requires.magnitude.0)
    (ap (λ (t : List ℕ). t ++ drop c.args.end c.args.room.now) (minus_first c.args.n (rw back at c.if-n-ge0.false)))

pub returns-clause-short : goal.returns-clause-short
returns-clause-short c = length_signed_le 19 c.args.n (omega arith) (omega arith)

pub returns-then-n-ge0-clause-short : goal.returns-then-n-ge0-clause-short
returns-then-n-ge0-clause-short c = length_signed_le 19 c.args.n (omega arith) (omega arith)
