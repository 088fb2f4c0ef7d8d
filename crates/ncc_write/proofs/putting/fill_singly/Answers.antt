use Rattle.std.proofs.Common.{◌∙◌}
use Rattle.ncc_write.proofs.ManyFills.{next_fill}
use Rattle.ncc_write.proofs.putting.fill_singly.Goals as goal

pub loop-done-preserved : goal.loop-done-preserved
loop-done-preserved c =
    let at = c.loop-done.invariant in
    record {
      bytes = next_fill c.args.place c.loop-done.done c.args.fill.now c.args.buffer.now c.loop-done.buffer c.copy_at.new.buffer at.bytes c.copy_at.ensures.bytes;
      room = c.copy_at.ensures.room ∙ at.room;
    }
