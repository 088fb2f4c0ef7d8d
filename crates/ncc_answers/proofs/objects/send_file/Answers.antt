use Rattle.std.specs.Prelude.{codes}
use Rattle.ncc_schema.proofs.Writing.{fails_at, writes_both}
use Rattle.ncc_answers.specs.Shown.{path_value}
use Rattle.ncc_answers.proofs.objects.send_file.Goals as goal

pub returns-in_err-write_all-clause-bytes : goal.returns-in_err-write_all-clause-bytes
returns-in_err-write_all-clause-bytes g c =
    fails_at _ _ _ (codes "{\"file\":") (path_value c.args.path.now) _ c.in_err-write_all.field-0.0 c.from_residual.ensures.1 c.in_err-write_all.ensures.bytes

pub returns-clause-bytes : goal.returns-clause-bytes
returns-clause-bytes g c = writes_both _ _ _ (codes "{\"file\":") (path_value c.args.path.now) _ c.in_ok-write_all.ensures.bytes c.send_path_value.ensures.bytes
