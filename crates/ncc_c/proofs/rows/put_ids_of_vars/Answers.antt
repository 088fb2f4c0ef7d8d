use Rattle.std.proofs.Common.{length, refl, sym, ap, ◌∙◌, arith}
use Rattle.std.proofs.lemmas.List.{drop_more}
use Rattle.ncc_c.specs.Rows.{id_count, ids_of_vars}
use Rattle.ncc_c.proofs.PuttingRows.{piece_step}
use Rattle.ncc_c.proofs.rows.put_ids_of_vars.Goals as goal

pub loop-k-preserved : goal.loop-k-preserved
loop-k-preserved c =
    let at = c.loop-k.invariant in
    let vars = c.args.vars.now in
    let k = c.loop-k.k in
    let d = c.index-vars-k.result in
    let split = ap id_count (drop_more vars k d c.loop-k-test.true) in
    record {
      long = omega (arith, at.long, split, ap length c.as_slice-ids.ensures);
      put = piece_step (λ y. y.dims) ids_of_vars ids_of_vars vars k d c.loop-k.out c.put_ids.new.out c.loop-k.first (length c.as_slice-ids.result.now) _ c.loop-k-test.true (λ xs. refl)
          (c.put_ids.ensures ∙ c.as_slice-ids.ensures) (sym (ap length c.put_ids.ensures)) (omega (arith, at.long, c.loop-k.auto.out))
          ∙ at.put;
    }
