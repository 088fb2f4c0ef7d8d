use Rattle.std.proofs.Common.{◌≡◌, ◌+◌, ◌-◌, ◌*◌, ◌≤◌, ◌++◌, ◌∷◌, [], ℕ, List, suc, length, drop, decimal, map, get_or, ap, sym, ◌∙◌, arith, append_assoc}
use Rattle.std.proofs.lemmas.List.{get_or-map, length-append}
use Rattle.ncc_csv.specs.Rows.{row_line}
use Rattle.ncc_csv.specs.Runs.{run_row, first_rows}
use Rattle.ncc_csv.proofs.Plain.{run_line}
use Rattle.ncc_csv.proofs.Runs.{on_err_weaker}
use Rattle.ncc_csv.proofs.row.put_rows_at_once.Goals as goal

-- one row less stands before what is laid out, and one row more in it
pub loop-k-preserved : goal.loop-k-preserved
loop-k-preserved g c =
    let l = c.loop-k in
    let k = l.k - 1 in
    let text = g.T.Cell.text c.args.style in
    let texts = map text c.args.values.now in
    let r = c.lay_row-at in
    let value = text c.index-values-k.result in
    let index = c.args.start + k * c.args.stride in
    let more : suc k ≡ l.k = omega (arith, c.loop-k-test.true) in
    let there : k + 1 ≤ length c.args.values.now = omega (arith, c.loop-k-test.true, l.invariant.below, c.requires.span) in
    let same : value ≡ get_or texts k [] = ap text c.index-values-k.is ∙ sym (get_or-map text c.args.values.now k c.index-values-k.result [] (omega (arith, there))) in
    record {
      above = omega (arith, c.loop-k-test.true);
      below = omega (arith, l.invariant.below);
      room = omega (arith, l.invariant.room, r.ensures.start, c.loop-k-test.true);
      within = omega (arith, l.invariant.within, r.ensures.start, r.auto.room);
      rows = λ heads plain front.
          let rows = first_rows (run_row heads c.args.start c.args.stride texts) in
          let line : drop (64 - c.args.size) c.args.front.now ++ (decimal index ++ 44 ∷ (value ++ 10 ∷ [])) ≡ row_line (run_row heads c.args.start c.args.stride texts k) =
          ap (λ (t : List ℕ). t ++ (decimal index ++ 44 ∷ (value ++ 10 ∷ []))) front
          ∙ sym (run_line heads index value plain r.ensures.plain)
          ∙ ap (λ (t : List ℕ). row_line (heads ++ decimal index ∷ t ∷ [])) same in
          ap (λ (t : List ℕ). rows k ++ t) (r.ensures.row ∙ ap (λ (t : List ℕ). t ++ drop l.at l.room) line)
          ∙ sym (append_assoc (rows k) (row_line (run_row heads c.args.start c.args.stride texts k)) (drop l.at l.room))
          ∙ ap (λ (n : ℕ). rows n ++ drop l.at l.room) more
          ∙ l.invariant.rows heads plain front;
    }

pub returns-clause-full : goal.returns-clause-full
returns-clause-full g c before heads plain front is =
    let l = c.loop-k in
    let rows = first_rows (run_row heads c.args.start c.args.stride (map (g.T.Cell.text c.args.style) c.args.values.now)) in
    let first : l.k ≡ c.args.from = omega (arith, l.invariant.above, c.loop-k-test.false) in
    on_err_weaker c.extend_from_slice.result _ _
    (λ full.
    omega (
      arith,
      full,
      ap length is,
      length-append before (rows c.args.from),
      ap length c.split_at.ensures.back,
      ap length (l.invariant.rows heads plain front),
      length-append (rows l.k) (drop l.at l.room),
      ap (λ (n : ℕ). length (rows n)) first,
    ))
    c.extend_from_slice.ensures.full
