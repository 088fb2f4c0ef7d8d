use Rattle.std.proofs.Common.{◌∷◌, ◌∙◌, ap, arith, List, ℕ}
use Rattle.std.proofs.lemmas.Fmt.{length-decimal-le}
use Rattle.ncc_lines.proofs.values.integers.lay_unsigned.Goals as goal

pub write_digits-start-requires : goal.write_digits-start-requires
write_digits-start-requires c = (omega (arith, length-decimal-le 20 c.args.n (omega arith) (omega arith) c.ranges.n.fits), omega (arith, c.requires.1))

pub put_space-requires : goal.put_space-requires
put_space-requires c = (omega (arith, length-decimal-le 20 c.args.n (omega arith) (omega arith) c.ranges.n.fits), omega arith)

pub returns-clause-laid : goal.returns-clause-laid
returns-clause-laid c = c.put_space.ensures.put ∙ ap (λ (l : List ℕ). 32 ∷ l) c.write_digits-start.ensures.written

pub returns-clause-short : goal.returns-clause-short
returns-clause-short c = omega (arith, length-decimal-le 20 c.args.n (omega arith) (omega arith) c.ranges.n.fits)
