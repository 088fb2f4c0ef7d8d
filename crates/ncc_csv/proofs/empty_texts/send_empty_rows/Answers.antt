use Rattle.std.proofs.Common.{◌≡◌, ◌+◌, ◌-◌, ◌++◌, [], ℕ, suc, List, sym, subst, ap, ◌∙◌, arith}
use Rattle.ncc_schema.specs.Device.{Puts}
use Rattle.ncc_schema.proofs.Writing.{puts_both}
use Rattle.ncc_csv.specs.Rows.{row_line}
use Rattle.ncc_csv.specs.Runs.{first_rows}
use Rattle.ncc_csv.specs.TextRuns.{numbered_row}
use Rattle.ncc_csv.proofs.PartRows.{front_behind, front_of_more}
use Rattle.ncc_csv.proofs.PartTexts.{fails}
use Rattle.ncc_csv.proofs.Runs.{first_rows-add}
use Rattle.ncc_csv.proofs.empty_texts.send_empty_rows.Goals as goal

pub returns-in_err-send_empty_row-clause-sent : goal.returns-in_err-send_empty_row-clause-sent
returns-in_err-send_empty_row-clause-sent g c =
    let row = λ (k : ℕ). numbered_row c.args.slab.now k [] in
    let n = c.loop-number.number in
    let more = c.args.rows - (n + 1) in
    let all : c.args.rows ≡ n + 1 + more = omega arith in
    let one : first_rows row (n + 1) ≡ first_rows row n ++ row_line (row n) = ap (first_rows row) (let next : n + 1 ≡ suc n = omega arith in next) in
    fails _ _ _ _ c.from_residual.ensures.0
    (front_of_more _ _ (first_rows row c.args.rows) (first_rows row (n + 1)) (first_rows (λ k. row (n + 1 + k)) more) (ap (first_rows row) all ∙ first_rows-add row (n + 1) more)
    (front_behind _ _ _ (first_rows row (n + 1)) (first_rows row n) (row_line (row n)) one c.loop-number.invariant.sent c.in_err-send_empty_row.ensures.sent))

pub loop-number-preserved : goal.loop-number-preserved
loop-number-preserved g c =
    let row = λ (k : ℕ). numbered_row c.args.slab.now k [] in
    let n = c.loop-number.number in
    let one : first_rows row (n + 1) ≡ first_rows row n ++ row_line (row n) = ap (first_rows row) (let next : n + 1 ≡ suc n = omega arith in next) in
    record {
      sent = subst (λ (t : List ℕ). Puts (g.W.Sink.put c.args.sink.now) (g.W.Sink.put c.send_empty_row.new.sink) t) (sym one)
          (puts_both _ _ _ (first_rows row n) (row_line (row n)) c.loop-number.invariant.sent c.in_ok-send_empty_row.ensures.sent);
      count = c.in_ok-send_empty_row.ensures.count ∙ c.loop-number.invariant.count;
    }
