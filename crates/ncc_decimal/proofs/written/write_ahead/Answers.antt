use Rattle.std.proofs.Common.{ℕ, length, drop, decimal, sym, ap, ◌∙◌, arith}
use Rattle.std.proofs.lemmas.Fmt.{decimal_nonempty}
use Rattle.std.proofs.lemmas.List.{drop-drop}
use Rattle.std.proofs.Math.Seq.{drop-append_seam}
use Rattle.ncc_decimal.proofs.written.write_ahead.Goals as goal

pub returns-clause-some : goal.returns-clause-some
returns-clause-some c = let some = decimal_nonempty c.args.n c.ranges.n.fits in omega (arith, some, c.write_digits.ensures.start)

pub returns-clause-text : goal.returns-clause-text
returns-clause-text c =
    let front = decimal c.args.n in
    let new = c.write_digits.new.buf in
    ap (λ (n : ℕ). drop n new) (sym c.write_digits.ensures.start)
    ∙ sym (drop-drop (length front) c.write_digits.result new)
    ∙ ap (drop (length front)) c.write_digits.ensures.written
    ∙ drop-append_seam front (drop c.args.start c.args.room.now)
