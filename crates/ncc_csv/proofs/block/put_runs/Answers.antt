use Rattle.std.proofs.Common.{◌≡◌, ◌+◌, ◌++◌, ◌∙◌, ℕ, List, append_assoc, map, drop, sym, ap, arith}
use Rattle.ncc_csv.specs.Runs.{slab_row, first_rows}
use Rattle.ncc_csv.proofs.Runs.{rows_from}
use Rattle.ncc_csv.proofs.block.put_runs.Goals as goal

pub loop-done-preserved : goal.loop-done-preserved
loop-done-preserved g c =
    let s = c.args.slab.now in
    let values = c.args.values.now in
    let text = (g.T.Cell.text c.args.style) in
    let done = c.loop-done.done in
    let n = c.in_ok-done.field-0 in
    let so_far = first_rows (slab_row s c.args.first (map text values)) done in
    let next = first_rows (slab_row s (c.args.first + done) (map text (drop done values))) n in
    let rest : first_rows (slab_row s (c.args.first + done) (map text c.split_at.result.1.now)) n ≡ next =
    ap (λ l. first_rows (slab_row s (c.args.first + done) (map text l)) n) c.split_at.ensures.back in
    record {
      within = omega (arith, c.in_ok-done.ensures.within, c.split_at.ensures.back_len);
      added = c.in_ok-done.ensures.added
          ∙ ap (λ (t : List ℕ). t ++ first_rows (slab_row s (c.args.first + done) (map text c.split_at.result.1.now)) n) c.loop-done.invariant.added
          ∙ append_assoc c.args.page.now.items so_far (first_rows (slab_row s (c.args.first + done) (map text c.split_at.result.1.now)) n)
          ∙ ap (λ (t : List ℕ). c.args.page.now.items ++ (so_far ++ t)) rest
          ∙ ap (λ (t : List ℕ). c.args.page.now.items ++ t) (sym (rows_from text values s c.args.first done n));
    }
