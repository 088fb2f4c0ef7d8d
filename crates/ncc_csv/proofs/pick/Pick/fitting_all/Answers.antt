use Rattle.std.proofs.Common.{◌++◌, ◌∷◌, [], ℕ, List, take, sym, ap, ◌∙◌}
use Rattle.ncc_csv.specs.Picks.{fitting_counts}
use Rattle.ncc_csv.proofs.Picking.{fitting_counts_more}
use Rattle.ncc_csv.proofs.pick.Pick.fitting_all.Goals as goal

pub loop-k-preserved : goal.loop-k-preserved
loop-k-preserved c =
    let lengths = c.args.lengths.now in
    let start = c.args.start.now in
    let stride = c.args.stride.now in
    let more = fitting_counts_more lengths start stride c.loop-k.k c.loop-k-test.true c.requires.starts c.requires.strides in
    c.in_ok-push.ensures.items
    ∙ ap (λ (l : List ℕ). l ++ c.fitting.result ∷ []) c.loop-k.invariant
    ∙ ap (λ (n : ℕ). fitting_counts (take c.loop-k.k lengths) (take c.loop-k.k start) (take c.loop-k.k stride) ++ n ∷ []) c.fitting.ensures
    ∙ sym more
