use Rattle.std.proofs.Common.{sym, ◌∙◌, arith}
use Rattle.ncc_header.proofs.TakePiece.{too_long}
use Rattle.ncc_header.proofs.taking.size_within.Goals as goal

pub returns-then-size-reading-clause-err : goal.returns-then-size-reading-clause-err
returns-then-size-reading-clause-err c = (λ h. cc, λ rest. too_long c.args.reading.now c.in-Some.size rest (sym c.size.ensures ∙ c.in-Some.is) (omega arith))
