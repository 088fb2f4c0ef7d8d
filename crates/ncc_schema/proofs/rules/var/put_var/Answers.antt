use Rattle.ncc_schema.proofs.Encoding.{ids_fit}
use Rattle.ncc_schema.proofs.Writing.{writes_both, fails_at}
use Rattle.ncc_schema.proofs.rules.var.put_var.Goals as goal

pub put_dimids-requires-clause-each : goal.put_dimids-requires-clause-each
put_dimids-requires-clause-each g c = let v = c.requires.var in rw c.as_slice-2.ensures (ids_fit c.args.version v.0 c.args.var.now.dims v.1 v.2.dimids)

pub returns-in_err-put_name-clause-bytes : goal.returns-in_err-put_name-clause-bytes
returns-in_err-put_name-clause-bytes g c = fails_at _ _ _ _ _ _ c.in_err-put_name.field-0.0 c.from_residual.ensures.1 (rw c.as_slice.ensures at c.in_err-put_name.ensures.bytes)

pub returns-in_err-put_dimids-clause-bytes : goal.returns-in_err-put_dimids-clause-bytes
returns-in_err-put_dimids-clause-bytes g c =
    writes_both _ _ _ _ _ _ (rw c.as_slice.ensures at c.in_ok-put_name.ensures.bytes)
    (fails_at _ _ _ _ _ _ c.in_err-put_dimids.field-0.0 c.from_residual-in_err-put_dimids.ensures.1 (rw c.as_slice-2.ensures at c.in_err-put_dimids.ensures.bytes))

pub returns-in_err-put_attrs-clause-bytes : goal.returns-in_err-put_attrs-clause-bytes
returns-in_err-put_attrs-clause-bytes g c =
    writes_both _ _ _ _ _ _ (rw c.as_slice.ensures at c.in_ok-put_name.ensures.bytes)
    (writes_both _ _ _ _ _ _ (rw c.as_slice-2.ensures at c.in_ok-put_dimids.ensures.bytes)
    (fails_at _ _ _ _ _ _ c.in_err-put_attrs.field-0.0 c.from_residual-in_err-put_attrs.ensures.1 (rw c.as_slice-3.ensures at c.in_err-put_attrs.ensures.bytes)))

pub returns-in_err-put_word-clause-bytes : goal.returns-in_err-put_word-clause-bytes
returns-in_err-put_word-clause-bytes g c =
    writes_both _ _ _ _ _ _ (rw c.as_slice.ensures at c.in_ok-put_name.ensures.bytes)
    (writes_both _ _ _ _ _ _ (rw c.as_slice-2.ensures at c.in_ok-put_dimids.ensures.bytes)
    (writes_both _ _ _ _ _ _ (rw c.as_slice-3.ensures at c.in_ok-put_attrs.ensures.bytes)
    (fails_at _ _ _ _ _ _ c.in_err-put_word.field-0.0 c.from_residual-in_err-put_word.ensures.1 (rw c.code.ensures at c.in_err-put_word.ensures.bytes))))

pub returns-in_err-put_non_neg-clause-bytes : goal.returns-in_err-put_non_neg-clause-bytes
returns-in_err-put_non_neg-clause-bytes g c =
    writes_both _ _ _ _ _ _ (rw c.as_slice.ensures at c.in_ok-put_name.ensures.bytes)
    (writes_both _ _ _ _ _ _ (rw c.as_slice-2.ensures at c.in_ok-put_dimids.ensures.bytes)
    (writes_both _ _ _ _ _ _ (rw c.as_slice-3.ensures at c.in_ok-put_attrs.ensures.bytes)
    (writes_both _ _ _ _ _ _ (rw c.code.ensures at c.in_ok-put_word.ensures.bytes)
    (fails_at _ _ _ _ _ _ c.in_err-put_non_neg.field-0.0 c.from_residual-in_err-put_non_neg.ensures.1 c.in_err-put_non_neg.ensures.bytes))))

pub returns-clause-bytes : goal.returns-clause-bytes
returns-clause-bytes g c =
    writes_both _ _ _ _ _ _ (rw c.as_slice.ensures at c.in_ok-put_name.ensures.bytes)
    (writes_both _ _ _ _ _ _ (rw c.as_slice-2.ensures at c.in_ok-put_dimids.ensures.bytes)
    (writes_both _ _ _ _ _ _ (rw c.as_slice-3.ensures at c.in_ok-put_attrs.ensures.bytes)
    (writes_both _ _ _ _ _ _ (rw c.code.ensures at c.in_ok-put_word.ensures.bytes)
    (writes_both _ _ _ _ _ _ c.in_ok-put_non_neg.ensures.bytes c.put_begin.ensures.bytes))))
