use Rattle.std.proofs.Common.{◌+◌, drop, ◌∙◌}
use Rattle.ncc_lines.specs.Texts.{var_text, var_texts}
use Rattle.ncc_lines.proofs.SendingText.{fails, piece_fails, piece_sent, next_var}
use Rattle.ncc_lines.proofs.sections.send_vars.Goals as goal

pub returns-in_err-send_var-clause-sent : goal.returns-in_err-send_var-clause-sent
returns-in_err-send_var-clause-sent g c =
    let piece = var_text c.args.style c.args.dims.now c.loop-number.number c.offset_of.result c.index-vars-number.result in
    let after = var_texts c.args.style c.args.dims.now c.args.places.now (c.loop-number.number + 1) (drop (c.loop-number.number + 1) c.args.vars.now) in
    let parts = next_var c.args.style c.args.dims.now c.args.places.now c.args.vars.now c.loop-number.number c.offset_of.result c.index-vars-number.result c.loop-number-test.true c.index-vars-number.is c.offset_of.ensures in
    fails _ _ _ _ _ c.from_residual.ensures.0 (piece_fails _ _ _ _ c.loop-number.page.items (var_texts c.args.style c.args.dims.now c.args.places.now c.loop-number.number (drop c.loop-number.number c.args.vars.now)) piece after c.loop-number.invariant.so_far parts c.in_err-send_var.ensures.sent)

pub loop-number-preserved : goal.loop-number-preserved
loop-number-preserved g c =
    let piece = var_text c.args.style c.args.dims.now c.loop-number.number c.offset_of.result c.index-vars-number.result in
    let after = var_texts c.args.style c.args.dims.now c.args.places.now (c.loop-number.number + 1) (drop (c.loop-number.number + 1) c.args.vars.now) in
    let parts = next_var c.args.style c.args.dims.now c.args.places.now c.args.vars.now c.loop-number.number c.offset_of.result c.index-vars-number.result c.loop-number-test.true c.index-vars-number.is c.offset_of.ensures in
    record {
      so_far = piece_sent _ _ _ _ c.loop-number.page.items (var_texts c.args.style c.args.dims.now c.args.places.now c.loop-number.number (drop c.loop-number.number c.args.vars.now)) piece after _ c.loop-number.invariant.so_far parts c.in_ok-send_var.ensures.sent;
      count = c.in_ok-send_var.ensures.count ∙ c.loop-number.invariant.count;
    }
