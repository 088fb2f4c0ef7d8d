use Rattle.std.proofs.Common.{◌+◌, ◌≤◌, length, map, ◌∙◌, arith}
use Rattle.ncc_csv.specs.Runs.{run_row}
use Rattle.ncc_csv.proofs.Runs.{first_rows_grow, on_err}
use Rattle.ncc_csv.proofs.row.put_together.Goals as goal

pub returns-in_err-put_rows_at_once-clause-full : goal.returns-in_err-put_rows_at_once-clause-full
returns-in_err-put_rows_at_once-clause-full g c heads plain front =
    let l = c.loop-done in
    let row = run_row heads c.args.start c.args.stride (map (g.T.Cell.text c.args.style) c.args.values.now) in
    let n = length c.args.values.now in
    let to : l.done + c.min.result ≤ n = omega (arith, c.min.ensures, c.loop-done-test.true) in
    let full = c.in_err-put_rows_at_once.ensures.full c.args.page.now.items heads plain (l.invariant.shared ∙ front) (l.invariant.rows heads plain front) in
    on_err c.from_residual.result _ (omega (arith, full, l.invariant.room, first_rows_grow row (l.done + c.min.result) n to))
