use Rattle.std.proofs.Common.{arith, ap, ◌∙◌}
use Rattle.std.proofs.lemmas.List.{length-set}
use Rattle.ncc_c.specs.Planning.{place_row}
use Rattle.ncc_c.proofs.PuttingRows.{mapped_step}
use Rattle.ncc_c.proofs.planning.put_rows.Goals as goal

pub loop-k-preserved : goal.loop-k-preserved
loop-k-preserved c =
    let at = c.loop-k.invariant in
    record {
      long = length-set c.loop-k.out c.loop-k.k c.place_row.result ∙ at.long;
      put = mapped_step place_row c.args.vars.now c.loop-k.out c.loop-k.k c.index-vars-k.result c.place_row.result (omega (arith, c.loop-k-test.true, at.long, c.requires)) (omega (arith, c.loop-k-test.true)) (c.place_row.ensures ∙ ap place_row c.index-vars-k.is) at.put;
    }
