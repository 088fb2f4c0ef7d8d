use Rattle.std.proofs.Common.{arith}
use Rattle.ncc_lines.proofs.DigitTable.{digits_at}
use Rattle.ncc_lines.proofs.hex.byte_digits.Goals as goal

pub returns : goal.returns
returns c = digits_at c.args.b (omega arith)
