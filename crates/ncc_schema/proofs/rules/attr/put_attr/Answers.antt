use Rattle.ncc_schema.proofs.Writing.{writes_both, fails_at}
use Rattle.ncc_schema.proofs.rules.attr.put_attr.Goals as goal

pub returns-in_err-put_name-clause-bytes : goal.returns-in_err-put_name-clause-bytes
returns-in_err-put_name-clause-bytes g c = fails_at _ _ _ _ _ _ c.in_err-put_name.field-0.0 c.from_residual.ensures.1 (rw c.as_slice.ensures at c.in_err-put_name.ensures.bytes)

pub returns-in_err-put_word-clause-bytes : goal.returns-in_err-put_word-clause-bytes
returns-in_err-put_word-clause-bytes g c =
    writes_both _ _ _ _ _ _ (rw c.as_slice.ensures at c.in_ok-put_name.ensures.bytes)
    (fails_at _ _ _ _ _ _ c.in_err-put_word.field-0.0 c.from_residual-in_err-put_word.ensures.1 (rw (c.code.ensures, c.xtype.ensures) at c.in_err-put_word.ensures.bytes))

pub returns-in_err-put_non_neg-clause-bytes : goal.returns-in_err-put_non_neg-clause-bytes
returns-in_err-put_non_neg-clause-bytes g c =
    writes_both _ _ _ _ _ _ (rw c.as_slice.ensures at c.in_ok-put_name.ensures.bytes)
    (writes_both _ _ _ _ _ _ (rw (c.code.ensures, c.xtype.ensures) at c.in_ok-put_word.ensures.bytes)
    (fails_at _ _ _ _ _ _ c.in_err-put_non_neg.field-0.0 c.from_residual-in_err-put_non_neg.ensures.1 (rw c.len.ensures at c.in_err-put_non_neg.ensures.bytes)))

pub returns-in_err-put_values-clause-bytes : goal.returns-in_err-put_values-clause-bytes
returns-in_err-put_values-clause-bytes g c =
    writes_both _ _ _ _ _ _ (rw c.as_slice.ensures at c.in_ok-put_name.ensures.bytes)
    (writes_both _ _ _ _ _ _ (rw (c.code.ensures, c.xtype.ensures) at c.in_ok-put_word.ensures.bytes)
    (writes_both _ _ _ _ _ _ (rw c.len.ensures at c.in_ok-put_non_neg.ensures.bytes)
    (fails_at _ _ _ _ _ _ c.in_err-put_values.field-0.0 c.from_residual-in_err-put_values.ensures.1 c.in_err-put_values.ensures.bytes)))

pub returns-clause-bytes : goal.returns-clause-bytes
returns-clause-bytes g c =
    writes_both _ _ _ _ _ _ (rw c.as_slice.ensures at c.in_ok-put_name.ensures.bytes)
    (writes_both _ _ _ _ _ _ (rw (c.code.ensures, c.xtype.ensures) at c.in_ok-put_word.ensures.bytes)
    (writes_both _ _ _ _ _ _ (rw c.len.ensures at c.in_ok-put_non_neg.ensures.bytes)
    (writes_both _ _ _ _ _ _ c.in_ok-put_values.ensures.bytes (rw c.padding_behind.ensures at c.put_zeros.ensures.bytes))))
