use Rattle.ncc_check.proofs.Listing.{one_mark}
use Rattle.ncc_check.proofs.notes.counting.note_marks.Goals as goal

pub loop-mark-preserved : goal.loop-mark-preserved
loop-mark-preserved c =
    one_mark c.args.marks.now c.loop-mark.mark-index _ c.note_of-note.result c.args.notes.now.items c.loop-mark.notes.items c.note_if.new.notes.items c.loop-mark-test.true
    c.note_of-note.ensures c.loop-mark.invariant c.in_ok-note_if.ensures.notes
