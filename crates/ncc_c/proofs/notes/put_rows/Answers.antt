use Rattle.std.proofs.Common.{arith, ◌∙◌}
use Rattle.std.proofs.lemmas.List.{length-set}
use Rattle.ncc_c.specs.Verdicts.{note_row}
use Rattle.ncc_c.proofs.PuttingRows.{mapped_step}
use Rattle.ncc_c.proofs.notes.put_rows.Goals as goal

pub loop-k-preserved : goal.loop-k-preserved
loop-k-preserved c =
    let at = c.loop-k.invariant in
    record {
      long = length-set c.loop-k.out c.loop-k.k c.note_row.result ∙ at.long;
      put = mapped_step note_row c.args.notes.now c.loop-k.out c.loop-k.k _ c.note_row.result (omega (arith, c.loop-k-test.true, c.min-count.ensures, at.long)) (omega (arith, c.loop-k-test.true, c.min-count.ensures)) c.note_row.ensures at.put;
    }
