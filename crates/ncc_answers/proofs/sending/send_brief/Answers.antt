use Rattle.ncc_schema.proofs.Writing.{writes_both, fails_at}
use Rattle.ncc_answers.proofs.sending.send_brief.Goals as goal

pub returns-in_err-send_answer-clause-bytes : goal.returns-in_err-send_answer-clause-bytes
returns-in_err-send_answer-clause-bytes g c = fails_at _ _ _ _ _ _ c.in_err-send_answer.field-0.0 c.from_residual.ensures.1 c.in_err-send_answer.ensures.bytes

pub returns-clause-bytes : goal.returns-clause-bytes
returns-clause-bytes g c = writes_both _ _ _ _ _ _ c.in_ok-send_answer.ensures.bytes c.send_path.ensures.bytes
