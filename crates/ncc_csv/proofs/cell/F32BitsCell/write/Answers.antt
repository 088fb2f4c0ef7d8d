use Rattle.ncc_csv.proofs.Plain.{plain_float}
use Rattle.ncc_csv.proofs.cell.F32BitsCell.write.Goals as goal

pub returns-in-Bits-clause-plain : goal.returns-in-Bits-clause-plain
returns-in-Bits-clause-plain c = plain_float c.args.style c.args.self

pub returns-in-Decimal-clause-plain : goal.returns-in-Decimal-clause-plain
returns-in-Decimal-clause-plain c = plain_float c.args.style c.args.self
