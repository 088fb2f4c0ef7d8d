use Rattle.std.proofs.Common.{◌≡◌, ◌++◌, drop}
use Rattle.std.specs.List.{flat_map}
use Rattle.ncc_explain.specs.Words.{told_note}
use Rattle.ncc_explain.proofs.telling.push_notes.Given as goal

abbrev pub invariant-loop-note : goal.invariant-loop-note
invariant-loop-note l = l.out.items ++ flat_map (told_note l.header) (drop l.note-index l.notes) ≡ l.fn.out.items ++ flat_map (told_note l.header) l.notes
