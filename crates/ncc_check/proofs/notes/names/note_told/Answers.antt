use Rattle.std.proofs.Common.{not}
use Rattle.std.specs.Prelude.{IsTrue}
use Rattle.ncc_check.specs.declared.note.NoteKind.TheVariants.{NameRule, DuplicateName}
use Rattle.ncc_check.specs.Noting.{NoteIf}
use Rattle.ncc_check.proofs.Joining.{both_join}
use Rattle.ncc_check.proofs.notes.names.note_told.Goals as goal

pub returns-clause-notes : goal.returns-clause-notes
returns-clause-notes g c =
    let at = c.step_to.new.item.offset in
    both_join (NoteIf (IsTrue (not c.args.fits)) NameRule at) (NoteIf (IsTrue c.args.repeated) DuplicateName at) c.args.notes.now.items c.note_if.new.notes.items c.note_if-2.new.notes.items c.in_ok-note_if.ensures.notes c.in_ok-note_if-2.ensures.notes
