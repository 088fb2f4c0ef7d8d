use Rattle.std.proofs.Common.{ap, ◌∙◌}
use Rattle.std.specs.List.{flat_map}
use Rattle.std.proofs.lemmas.Grind.{flat_map-append}
use Rattle.ncc_lines.proofs.SendingText.{fails, piece_fails, piece_sent}
use Rattle.ncc_lines.proofs.values.sending.send_pieces.Goals as goal

pub returns-in_err-send_piece-clause-sent : goal.returns-in_err-send_piece-clause-sent
returns-in_err-send_piece-clause-sent g c =
    let piece = flat_map (g.T.Printed.text c.args.style) c.split_at.result.0.now in
    let after = flat_map (g.T.Printed.text c.args.style) c.split_at.result.1.now in
    let parts = ap (flat_map (g.T.Printed.text c.args.style)) c.split_at.ensures.by_index.0 ∙ flat_map-append (g.T.Printed.text c.args.style) c.split_at.result.0.now c.split_at.result.1.now in
    fails _ _ _ _ _ c.from_residual.ensures.0 (piece_fails _ _ _ _ c.loop-rest.page.items _ piece after c.loop-rest.invariant.so_far parts c.in_err-send_piece.ensures.sent)

pub loop-rest-preserved : goal.loop-rest-preserved
loop-rest-preserved g c =
    let piece = flat_map (g.T.Printed.text c.args.style) c.split_at.result.0.now in
    let after = flat_map (g.T.Printed.text c.args.style) c.split_at.result.1.now in
    let parts = ap (flat_map (g.T.Printed.text c.args.style)) c.split_at.ensures.by_index.0 ∙ flat_map-append (g.T.Printed.text c.args.style) c.split_at.result.0.now c.split_at.result.1.now in
    record {
      so_far = piece_sent _ _ _ _ c.loop-rest.page.items _ piece after _ c.loop-rest.invariant.so_far parts c.in_ok-send_piece.ensures.sent;
      count = c.in_ok-send_piece.ensures.count ∙ c.loop-rest.invariant.count;
    }
