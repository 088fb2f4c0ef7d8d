use Rattle.std.proofs.Common.{◌≡◌, ◌+◌, ◌++◌, ◌∷◌, [], ℕ, List, map, get_or, sym, ap, ◌∙◌, arith}
use Rattle.std.proofs.lemmas.List.{get_or-map}
use Rattle.ncc_csv.specs.Rows.{row_line}
use Rattle.ncc_csv.specs.Runs.{slab_row}
use Rattle.ncc_csv.proofs.Runs.{one_row_more}
use Rattle.ncc_csv.proofs.Selecting.{no_index}
use Rattle.ncc_csv.proofs.block.put_scalar.Goals as goal

pub loop-k-preserved : goal.loop-k-preserved
loop-k-preserved g c =
    let text = g.T.Cell.text c.args.style in
    let texts = map text c.args.values.now in
    let row = slab_row c.args.slab.now c.args.first texts in
    let value = text c.index-values-k.result in
    let same : value ≡ get_or texts c.loop-k.k [] = ap text c.index-values-k.is ∙ sym (get_or-map text c.args.values.now c.loop-k.k c.index-values-k.result [] c.loop-k-test.true) in
    let next : value ∷ [] ≡ row c.loop-k.k =
    ap (λ (t : List ℕ). t ∷ []) same
    ∙ ap (λ (l : List (List ℕ)). l ++ get_or texts c.loop-k.k [] ∷ []) (sym (no_index c.args.slab.now (c.args.first + c.loop-k.k) c.requires.scalar (omega (arith, c.requires.there, c.loop-k-test.true)))) in
    one_row_more row c.args.page.now.items c.loop-k.page.items c.put_alone.new.page.items (row_line (value ∷ [])) c.loop-k.k
    c.loop-k.invariant c.in_ok-put_alone.ensures (ap (λ (r : List (List ℕ)). row_line r) next)
