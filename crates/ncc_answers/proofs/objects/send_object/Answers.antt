use Rattle.std.proofs.Common.{◌++◌}
use Rattle.std.specs.Prelude.{codes}
use Rattle.ncc_schema.proofs.Writing.{fails_at, writes_both}
use Rattle.ncc_answers.specs.Shown.{members_of, path_value, status_text}
use Rattle.ncc_answers.proofs.objects.send_object.Goals as goal

pub returns-in_err-send_file-clause-bytes : goal.returns-in_err-send_file-clause-bytes
returns-in_err-send_file-clause-bytes g c =
    let a = c.args.answer in
    fails_at _ _ _ (codes "{\"file\":" ++ path_value c.args.path.now)
    ((codes ",\"status\":" ++ status_text a) ++ (codes "," ++ (members_of a c.args.text.now ++ codes "}\n"))) _
    c.in_err-send_file.field-0.0 c.from_residual.ensures.1 c.in_err-send_file.ensures.bytes

pub returns-clause-bytes : goal.returns-clause-bytes
returns-clause-bytes g c =
    let a = c.args.answer in
    writes_both _ _ _ (codes "{\"file\":" ++ path_value c.args.path.now)
    ((codes ",\"status\":" ++ status_text a) ++ (codes "," ++ (members_of a c.args.text.now ++ codes "}\n"))) _
    c.in_ok-send_file.ensures.bytes c.send_answer.ensures.bytes
