use Rattle.std.proofs.Common.{◌∷◌, [], ◌++◌, decimal}
use Rattle.ncc_schema.proofs.Writing.{writes_both, fails_at}
use Rattle.ncc_lines.proofs.putting.put_numbered.Goals as goal

pub returns-in_err-write_all-clause-bytes : goal.returns-in_err-write_all-clause-bytes
returns-in_err-write_all-clause-bytes g c =
    fails_at _ _ _ c.args.word.now (decimal c.args.number ++ 10 ∷ []) _ c.in_err-write_all.field-0.0 c.from_residual.ensures.1
    c.in_err-write_all.ensures.bytes

pub returns-clause-bytes : goal.returns-clause-bytes
returns-clause-bytes g c =
    writes_both _ _ _ c.args.word.now (decimal c.args.number ++ 10 ∷ []) _ c.in_ok-write_all.ensures.bytes c.put_number.ensures.bytes
