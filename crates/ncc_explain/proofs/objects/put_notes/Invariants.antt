use Rattle.std.proofs.Common.{◌≡◌, ◌++◌, drop}
use Rattle.std.specs.List.{flat_map}
use Rattle.ncc_explain.specs.Members.{note_object}
use Rattle.ncc_explain.proofs.objects.put_notes.Given as goal

abbrev pub invariant-loop-note : goal.invariant-loop-note
invariant-loop-note l =
    (l.out.tokens ++ flat_map (note_object l.header) (drop l.note-index l.notes) ≡ l.fn.out.tokens ++ flat_map (note_object l.header) l.notes)
    × (l.out.before ≡ l.fn.out.before)
