use Rattle.ncc_schema.proofs.Writing.{writes_both, fails_at}
use Rattle.ncc_schema.proofs.rules.dim.put_dim.Goals as goal

pub returns-in_err-put_name-clause-bytes : goal.returns-in_err-put_name-clause-bytes
returns-in_err-put_name-clause-bytes g c = fails_at _ _ _ _ _ _ c.in_err-put_name.field-0.0 c.from_residual.ensures.1 (rw c.as_slice.ensures at c.in_err-put_name.ensures.bytes)

pub returns-clause-bytes : goal.returns-clause-bytes
returns-clause-bytes g c = writes_both _ _ _ _ _ _ (rw c.as_slice.ensures at c.in_ok-put_name.ensures.bytes) c.put_non_neg.ensures.bytes
