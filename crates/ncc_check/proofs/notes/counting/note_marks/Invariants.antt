use Rattle.ncc_check.specs.Noting.{Adds, Below, MarkNote}
use Rattle.ncc_check.proofs.notes.counting.note_marks.Given as goal

abbrev pub invariant-loop-mark : goal.invariant-loop-mark
invariant-loop-mark l = Adds (Below (MarkNote l.marks) l.mark-index) l.fn.notes.items l.notes.items
