use Rattle.std.proofs.Common.{Err, List, ℕ, subst}
use Rattle.ncc_json.specs.declared.wording.Wording.TheVariants.{Members}
use Rattle.ncc_schema.specs.Device.{WritesAll}
use Rattle.ncc_answers.specs.Shown.{shown}
use Rattle.ncc_answers.specs.declared.form.Form.TheVariants.{Object}
use Rattle.ncc_answers.specs.declared.work.Work.TheVariants as works
use Rattle.ncc_batch.proofs.Sources.{fails_source}
use Rattle.ncc_batch.proofs.source.list_source.Goals as goal

pub returns-in_err-send_shown-clause-sends : goal.returns-in_err-send_shown-clause-sends
returns-in_err-send_shown-clause-sends g c =
    let answer = c.members_in-answer.result.0 in
    let old = g.W.Sink.put c.args.sink.now in
    let new = g.W.Sink.put c.send_shown.new.sink in
    let e = c.in_err-send_shown.field-0.0 in
    let sent = subst (λ (t : List ℕ). WritesAll old new (Err e) (shown Object c.args.path.now answer t)) c.deref.ensures.value c.in_err-send_shown.ensures.bytes in
    fails_source _ (works.List c.args.limit c.args.style Members) Object c.args.path.now (g.R.Source.left c.args.source.now) old new answer c.members_in-answer.result.1.items e _ c.from_residual.ensures.1
    c.members_in-answer.ensures.told sent
