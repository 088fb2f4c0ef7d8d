use Rattle.std.proofs.Common.{◌++◌}
use Rattle.std.specs.Prelude.{codes}
use Rattle.ncc_schema.proofs.Writing.{fails_at, writes_both}
use Rattle.ncc_answers.specs.Shown.{members_of, status_text}
use Rattle.ncc_answers.proofs.objects.send_answer.Goals as goal

pub returns-in_err-send_two-clause-bytes : goal.returns-in_err-send_two-clause-bytes
returns-in_err-send_two-clause-bytes g c =
    fails_at _ _ _ (codes ",\"status\":" ++ status_text c.args.answer) (codes "," ++ (members_of c.args.answer c.args.text.now ++ codes "}\n")) _
    c.in_err-send_two.field-0.0 c.from_residual.ensures.1 (rw c.digit.ensures at c.in_err-send_two.ensures.bytes)

pub returns-clause-bytes : goal.returns-clause-bytes
returns-clause-bytes g c =
    writes_both _ _ _ (codes ",\"status\":" ++ status_text c.args.answer) (codes "," ++ (members_of c.args.answer c.args.text.now ++ codes "}\n")) _
    (rw c.digit.ensures at c.in_ok-send_two.ensures.bytes) (rw c.members.ensures at c.send_three.ensures.bytes)
