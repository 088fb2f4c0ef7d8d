use Rattle.ncc_schema.proofs.Writing.{writes_both}
use Rattle.ncc_answers.proofs.sending.send_label.Goals as goal

pub returns-clause-bytes : goal.returns-clause-bytes
returns-clause-bytes g c = writes_both _ _ _ _ _ _ c.in_ok-write_all.ensures.bytes c.write_all-2.ensures.bytes
