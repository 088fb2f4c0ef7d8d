use Rattle.ncc_schema.proofs.Writing.{writes_both, fails_at}
use Rattle.ncc_schema.proofs.rules.name.put_name.Goals as goal

pub returns-in_err-put_non_neg-clause-bytes : goal.returns-in_err-put_non_neg-clause-bytes
returns-in_err-put_non_neg-clause-bytes g c = fails_at _ _ _ _ _ _ c.in_err-put_non_neg.field-0.0 c.from_residual.ensures.1 c.in_err-put_non_neg.ensures.bytes

pub returns-in_err-write_all-clause-bytes : goal.returns-in_err-write_all-clause-bytes
returns-in_err-write_all-clause-bytes g c =
    writes_both _ _ _ _ _ _ c.in_ok-put_non_neg.ensures.bytes (fails_at _ _ _ c.args.name.now _ _ c.in_err-write_all.field-0.0 c.from_residual-in_err-write_all.ensures.1 c.in_err-write_all.ensures.bytes)

pub returns-clause-bytes : goal.returns-clause-bytes
returns-clause-bytes g c =
    writes_both _ _ _ _ _ _ c.in_ok-put_non_neg.ensures.bytes (writes_both _ _ _ c.args.name.now _ _ c.in_ok-write_all.ensures.bytes (rw c.pad.ensures.padding at c.put_zeros.ensures.bytes))
