use Rattle.std.proofs.Common.{◌+◌, drop, ◌∙◌, get_or, refl}
use Rattle.std.specs.List.{flat_map}
use Rattle.ncc_check.specs.declared.note.Note.{Note}
use Rattle.ncc_check.specs.declared.note.NoteKind.TheVariants.{VsizeField}
use Rattle.ncc_lines.specs.Verdicts.{note_line}
use Rattle.ncc_lines.proofs.SendingText.{fails, piece_fails, piece_sent, next_item}
use Rattle.ncc_lines.proofs.verdict.send_notes.Goals as goal

-- what stands outside a list of notes
abbrev outside : Note
outside = record { kind = VsizeField; offset = 0 }

pub returns-in_err-send_note-clause-sent : goal.returns-in_err-send_note-clause-sent
returns-in_err-send_note-clause-sent g c =
    let i = c.loop-note.note-index in
    let note = get_or c.args.notes.now i outside in
    let after = flat_map note_line (drop (i + 1) c.args.notes.now) in
    let parts = next_item note_line c.args.notes.now i note outside c.loop-note-test.true refl in
    fails _ _ _ _ _ c.from_residual.ensures.0 (piece_fails _ _ _ _ c.loop-note.page.items _ (note_line note) after c.loop-note.invariant.so_far parts c.in_err-send_note.ensures.sent)

pub loop-note-preserved : goal.loop-note-preserved
loop-note-preserved g c =
    let i = c.loop-note.note-index in
    let note = get_or c.args.notes.now i outside in
    let after = flat_map note_line (drop (i + 1) c.args.notes.now) in
    let parts = next_item note_line c.args.notes.now i note outside c.loop-note-test.true refl in
    record {
      so_far = piece_sent _ _ _ _ c.loop-note.page.items _ (note_line note) after _ c.loop-note.invariant.so_far parts c.in_ok-send_note.ensures.sent;
      count = c.in_ok-send_note.ensures.count ∙ c.loop-note.invariant.count;
    }
