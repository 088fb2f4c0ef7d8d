use Rattle.std.proofs.Common.{◌++◌, ◌∙◌}
use Rattle.std.specs.Prelude.{codes}
use Rattle.ncc_schema.proofs.Writing.{so_far_more}
use Rattle.ncc_answers.specs.Shown.{labelled}
use Rattle.ncc_answers.proofs.Fronts.{fails_so_far}
use Rattle.ncc_answers.proofs.sending.send_lines.Goals as goal

pub returns-in_err-rest-clause-bytes : goal.returns-in_err-rest-clause-bytes
returns-in_err-rest-clause-bytes g c =
    let label = c.args.path.now ++ codes ": " in
    let w = c.in_err-rest.ensures.front in
    fails_so_far _ _ _ (labelled label c.args.text.now) w.1 _ c.from_residual.ensures.1
    (so_far_more _ _ _ (labelled label c.args.text.now) (labelled label c.loop-rest.rest.now) w.0 w.1 c.loop-rest.invariant.so_far w.2 w.3)

pub loop-rest-preserved : goal.loop-rest-preserved
loop-rest-preserved g c =
    let label = c.args.path.now ++ codes ": " in
    let w = c.in_ok-rest.ensures.sent in
    record {
      so_far = so_far_more _ _ _ (labelled label c.args.text.now) (labelled label c.loop-rest.rest.now) w.0 (labelled label c.in_ok-rest.rest.now) c.loop-rest.invariant.so_far w.2 w.1;
      count = c.in_ok-rest.ensures.count ∙ c.loop-rest.invariant.count;
    }
