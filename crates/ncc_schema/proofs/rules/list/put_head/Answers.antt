use Rattle.ncc_schema.proofs.Encoding.{head_parts}
use Rattle.ncc_schema.proofs.Writing.{writes_both, fails_at}
use Rattle.ncc_schema.proofs.rules.list.put_head.Goals as goal

pub returns-in_err-put_word-clause-bytes : goal.returns-in_err-put_word-clause-bytes
returns-in_err-put_word-clause-bytes g c =
    rw (head_parts c.args.version c.args.tag c.args.number) (fails_at _ _ _ _ _ _ c.in_err-put_word.field-0.0 c.from_residual.ensures.1 (rw c.tag_before.ensures at c.in_err-put_word.ensures.bytes))

pub returns-clause-bytes : goal.returns-clause-bytes
returns-clause-bytes g c =
    rw (head_parts c.args.version c.args.tag c.args.number) (writes_both _ _ _ _ _ _ (rw c.tag_before.ensures at c.in_ok-put_word.ensures.bytes) c.put_non_neg.ensures.bytes)
