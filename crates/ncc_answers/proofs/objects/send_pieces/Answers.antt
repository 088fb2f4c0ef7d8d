use Rattle.std.proofs.Common.{◌+◌, drop, get_or, ap, ◌∙◌}
use Rattle.std.proofs.lemmas.List.{drop_more}
use Rattle.ncc_schema.proofs.Writing.{so_far_more, writes_front_so_far}
use Rattle.ncc_answers.specs.Shown.{piece, pieces}
use Rattle.ncc_answers.proofs.Fronts.{fails_with}
use Rattle.ncc_answers.proofs.objects.send_pieces.Goals as goal

pub returns-in_err-send_piece-clause-bytes : goal.returns-in_err-send_piece-clause-bytes
returns-in_err-send_piece-clause-bytes g c =
    let t = c.args.is_text in
    let path = c.args.path.now in
    let n = c.loop-byte.byte-index in
    let split = ap (pieces t) (drop_more path n 0 c.loop-byte-test.true) in
    fails_with _ _ _ (pieces t path) _ c.in_err-send_piece.field-0.0 c.from_residual.ensures.1
    (writes_front_so_far _ _ _ (pieces t path) (pieces t (drop n path)) (piece t (get_or path n 0)) (pieces t (drop (n + 1) path)) _ c.loop-byte.invariant.so_far split c.in_err-send_piece.ensures.bytes)

pub loop-byte-preserved : goal.loop-byte-preserved
loop-byte-preserved g c =
    let t = c.args.is_text in
    let path = c.args.path.now in
    let n = c.loop-byte.byte-index in
    let split = ap (pieces t) (drop_more path n 0 c.loop-byte-test.true) in
    record {
      so_far = so_far_more _ _ _ (pieces t path) (pieces t (drop n path)) (piece t (get_or path n 0)) (pieces t (drop (n + 1) path)) c.loop-byte.invariant.so_far split c.in_ok-send_piece.ensures.bytes;
      count = c.in_ok-send_piece.ensures.count ∙ c.loop-byte.invariant.count;
    }
