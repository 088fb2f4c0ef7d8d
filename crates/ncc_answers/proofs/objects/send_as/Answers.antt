use Rattle.std.proofs.Common.{◌++◌}
use Rattle.ncc_schema.proofs.Writing.{fails_at, writes_both}
use Rattle.ncc_answers.specs.Shown.{closing, opening, pieces}
use Rattle.ncc_answers.proofs.objects.send_as.Goals as goal

pub returns-in_err-write_all-clause-bytes : goal.returns-in_err-write_all-clause-bytes
returns-in_err-write_all-clause-bytes g c =
    let t = c.args.is_text in
    fails_at _ _ _ (opening t) (pieces t c.args.path.now ++ closing t) _ c.in_err-write_all.field-0.0 c.from_residual.ensures.1 (rw c.opening.ensures at c.in_err-write_all.ensures.bytes)

pub returns-in_err-send_pieces-clause-bytes : goal.returns-in_err-send_pieces-clause-bytes
returns-in_err-send_pieces-clause-bytes g c =
    let t = c.args.is_text in
    writes_both _ _ _ (opening t) (pieces t c.args.path.now ++ closing t) _ (rw c.opening.ensures at c.in_ok-write_all.ensures.bytes)
    (fails_at _ _ _ (pieces t c.args.path.now) (closing t) _ c.in_err-send_pieces.field-0.0 c.from_residual-in_err-send_pieces.ensures.1 c.in_err-send_pieces.ensures.bytes)

pub returns-clause-bytes : goal.returns-clause-bytes
returns-clause-bytes g c =
    let t = c.args.is_text in
    writes_both _ _ _ (opening t) (pieces t c.args.path.now ++ closing t) _ (rw c.opening.ensures at c.in_ok-write_all.ensures.bytes)
    (writes_both _ _ _ (pieces t c.args.path.now) (closing t) _ c.in_ok-send_pieces.ensures.bytes (rw c.closing.ensures at c.write_all-2.ensures.bytes))
