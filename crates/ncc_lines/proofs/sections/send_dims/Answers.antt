use Rattle.std.proofs.Common.{◌+◌, drop, ◌∙◌}
use Rattle.ncc_lines.specs.Texts.{dim_line, dim_lines}
use Rattle.ncc_lines.proofs.SendingText.{fails, piece_fails, piece_sent, next_line}
use Rattle.ncc_lines.proofs.sections.send_dims.Goals as goal

pub returns-in_err-send_dim-clause-sent : goal.returns-in_err-send_dim-clause-sent
returns-in_err-send_dim-clause-sent g c =
    let piece = dim_line c.loop-number.number c.index-dims-number.result in
    let after = dim_lines (c.loop-number.number + 1) (drop (c.loop-number.number + 1) c.args.dims.now) in
    let parts = next_line c.args.dims.now c.loop-number.number c.index-dims-number.result c.loop-number-test.true c.index-dims-number.is in
    fails _ _ _ _ _ c.from_residual.ensures.0 (piece_fails _ _ _ _ c.loop-number.page.items _ piece after c.loop-number.invariant.so_far parts c.in_err-send_dim.ensures.sent)

pub loop-number-preserved : goal.loop-number-preserved
loop-number-preserved g c =
    let piece = dim_line c.loop-number.number c.index-dims-number.result in
    let after = dim_lines (c.loop-number.number + 1) (drop (c.loop-number.number + 1) c.args.dims.now) in
    let parts = next_line c.args.dims.now c.loop-number.number c.index-dims-number.result c.loop-number-test.true c.index-dims-number.is in
    record {
      so_far = piece_sent _ _ _ _ c.loop-number.page.items _ piece after _ c.loop-number.invariant.so_far parts c.in_ok-send_dim.ensures.sent;
      count = c.in_ok-send_dim.ensures.count ∙ c.loop-number.invariant.count;
    }
