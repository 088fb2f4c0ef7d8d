use Rattle.std.proofs.Common.{◌≡◌, ◌+◌, ◌-◌, ◌≤◌, ℕ, List, map, length, drop, take, sym, ap, subst, ◌∙◌, arith}
use Rattle.ncc_schema.specs.Device.{Puts}
use Rattle.ncc_schema.proofs.Writing.{puts_both}
use Rattle.ncc_csv.specs.Runs.{slab_row, first_rows}
use Rattle.ncc_csv.proofs.PartTexts.{sends_front, fails, piece_rows, all_rows}
use Rattle.ncc_csv.proofs.sending.send_blocks.Goals as goal

pub returns-in_err-send_block-clause-sent : goal.returns-in_err-send_block-clause-sent
returns-in_err-send_block-clause-sent g c =
    let s = c.args.slab.now in
    let values = c.args.values.now in
    let text = (g.T.Cell.text c.args.style) in
    let done = c.loop-done.done in
    let piece = c.split_at-in-loop-done.result.0.now in
    let k = c.min.result in
    let back = c.split_at.ensures.back in
    let is : piece ≡ take k (drop done values) = c.split_at-in-loop-done.ensures.front ∙ ap (λ l. take k l) back in
    let short : k ≤ length (drop done values) = omega (arith, c.min.ensures, ap (λ l. length l) back) in
    let m = length values - (done + length piece) in
    let whole = all_rows text values s c.args.first done k piece is short m (omega (arith, c.split_at-in-loop-done.ensures.front_len, c.split_at.ensures.back_len, c.min.ensures, c.loop-done.invariant.within)) in
    fails _ _ _ _ c.from_residual.ensures.0 (sends_front _ _ _ _ (first_rows (slab_row s c.args.first (map text values)) done) (first_rows (slab_row s (c.args.first + done) (map text piece)) (length piece)) _ whole c.loop-done.invariant.sent c.in_err-send_block.ensures.sent)

pub loop-done-preserved : goal.loop-done-preserved
loop-done-preserved g c =
    let s = c.args.slab.now in
    let values = c.args.values.now in
    let text = (g.T.Cell.text c.args.style) in
    let done = c.loop-done.done in
    let piece = c.split_at-in-loop-done.result.0.now in
    let k = c.min.result in
    let back = c.split_at.ensures.back in
    let is : piece ≡ take k (drop done values) = c.split_at-in-loop-done.ensures.front ∙ ap (λ l. take k l) back in
    let short : k ≤ length (drop done values) = omega (arith, c.min.ensures, ap (λ l. length l) back) in
    let rows = piece_rows text values s c.args.first done k piece is short in
    record {
      within = omega (arith, c.split_at-in-loop-done.ensures.front_len, c.split_at.ensures.back_len, c.min.ensures);
      empty = c.in_ok-send_block.ensures.empty;
      sent = subst (λ (t : List ℕ). Puts (g.W.Sink.put c.args.sink.now) (g.W.Sink.put c.send_block.new.sink) t) (sym rows)
          (puts_both _ _ _ (first_rows (slab_row s c.args.first (map text values)) done) (first_rows (slab_row s (c.args.first + done) (map text piece)) (length piece)) c.loop-done.invariant.sent c.in_ok-send_block.ensures.sent);
      count = c.in_ok-send_block.ensures.count ∙ c.loop-done.invariant.count;
    }
