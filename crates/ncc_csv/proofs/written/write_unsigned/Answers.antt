use Rattle.std.proofs.Common.{arith}
use Rattle.std.proofs.lemmas.Fmt.{length-decimal-le}
use Rattle.ncc_csv.proofs.Plain.{plain_decimal}
use Rattle.ncc_csv.proofs.written.write_unsigned.Goals as goal

pub write_digits-requires : goal.write_digits-requires
write_digits-requires c = (omega (arith, length-decimal-le 20 c.args.n (omega arith) (omega arith) c.ranges.n.fits), omega (arith, c.requires.1))

pub returns-clause-short : goal.returns-clause-short
returns-clause-short c = length-decimal-le 20 c.args.n (omega arith) (omega arith) c.ranges.n.fits

pub returns-clause-plain : goal.returns-clause-plain
returns-clause-plain c = plain_decimal c.args.n
