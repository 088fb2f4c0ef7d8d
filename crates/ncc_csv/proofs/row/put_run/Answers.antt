use Rattle.std.proofs.Common.{◌≡◌, ◌+◌, ◌*◌, ◌++◌, ◌∷◌, [], ℕ, List, length, decimal, map, get_or, inl, ap, sym, ◌∙◌, arith}
use Rattle.std.specs.Vec.{vec_len, vec_capacity}
use Rattle.std.proofs.lemmas.List.{get_or-map, length-append}
use Rattle.ncc_csv.specs.Rows.{row_line}
use Rattle.ncc_csv.specs.Runs.{run_row, first_rows}
use Rattle.ncc_csv.specs.Word.{word_text}
use Rattle.ncc_csv.proofs.Plain.{run_line}
use Rattle.ncc_csv.proofs.Runs.{one_row_more, full_before, on_err}
use Rattle.ncc_csv.proofs.row.put_run.Goals as goal

pub loop-k-preserved : goal.loop-k-preserved
loop-k-preserved g c =
    let k = c.loop-k.k in
    let heads = map word_text c.args.heads.now in
    let text = g.T.Cell.text c.args.style in
    let texts = map text c.args.values.now in
    let index = c.args.start + k * c.args.stride in
    let value = text c.index-values-k.result in
    let same : value ≡ get_or texts k [] = ap text c.index-values-k.is ∙ sym (get_or-map text c.args.values.now k c.index-values-k.result [] c.loop-k-test.true) in
    let rest = decimal index ++ 44 ∷ (value ++ 10 ∷ []) in
    let line = ap (λ (t : List ℕ). t ++ rest) (c.deref-in-loop-k.ensures.value ∙ c.in_ok-set_front.ensures.front)
    ∙ sym (run_line heads index value c.requires.plain c.in_ok-put_row.ensures.plain)
    ∙ ap (λ (t : List ℕ). row_line (heads ++ decimal index ∷ t ∷ [])) same in
    record {
      rows = one_row_more (run_row heads c.args.start c.args.stride texts) c.args.page.now.items c.loop-k.page.items c.put_row.new.page.items (c.deref-in-loop-k.result.now ++ rest) k
          c.loop-k.invariant.rows c.in_ok-put_row.ensures.row line;
      room = omega (arith, c.loop-k.invariant.room, c.in_ok-put_row.ensures.capacity);
    }

pub returns-in_err-put_row-clause-full : goal.returns-in_err-put_row-clause-full
returns-in_err-put_row-clause-full g c =
    let k = c.loop-k.k in
    let heads = map word_text c.args.heads.now in
    let text = g.T.Cell.text c.args.style in
    let texts = map text c.args.values.now in
    let index = c.args.start + k * c.args.stride in
    let value = text c.index-values-k.result in
    let same : value ≡ get_or texts k [] = ap text c.index-values-k.is ∙ sym (get_or-map text c.args.values.now k c.index-values-k.result [] c.loop-k-test.true) in
    let rest = decimal index ++ 44 ∷ (value ++ 10 ∷ []) in
    let line = ap (λ (t : List ℕ). t ++ rest) (c.deref-in-loop-k.ensures.value ∙ c.in_ok-set_front.ensures.front)
    ∙ sym (run_line heads index value c.requires.plain c.in_err-put_row.ensures.plain)
    ∙ ap (λ (t : List ℕ). row_line (heads ++ decimal index ∷ t ∷ [])) same in
    let rows = first_rows (run_row heads c.args.start c.args.stride texts) in
    on_err c.from_residual-in_err-put_row.result _
    (inl (full_before (run_row heads c.args.start c.args.stride texts) (vec_capacity c.args.page.now) (vec_len c.args.page.now) (vec_len c.loop-k.page) (c.deref-in-loop-k.result.now ++ rest) k (length c.args.values.now)
    c.loop-k-test.true (omega (arith, c.in_err-put_row.ensures.full, c.loop-k.invariant.room)) (omega (arith, ap length c.loop-k.invariant.rows, length-append c.args.page.now.items (rows k))) line))
