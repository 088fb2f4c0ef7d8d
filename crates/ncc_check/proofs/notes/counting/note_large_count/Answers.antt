use Rattle.std.proofs.Common.{refl}
use Rattle.std.specs.Prelude.{IsTrue}
use Rattle.ncc_check.specs.declared.note.NoteKind.TheVariants.{LargeCount}
use Rattle.ncc_check.specs.Notes.{HasLargeCount}
use Rattle.ncc_check.proofs.Joining.{note_as}
use Rattle.ncc_check.proofs.notes.counting.note_large_count.Goals as goal

pub returns : goal.returns
returns c =
    note_as (IsTrue c.is_large-large.result) (HasLargeCount c.args.schema.now c.args.schema.now.count) LargeCount LargeCount 4 4 c.args.notes.now.items c.note_if.new.notes.items
    c.is_large-large.ensures.0 c.is_large-large.ensures.1 refl refl c.in_ok-note_if.ensures.notes
