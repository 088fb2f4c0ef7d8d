use Rattle.std.proofs.Common.{◌∙◌, ◌-◌, ap}
use Rattle.ncc_check.proofs.Places.{one_place}
use Rattle.ncc_check.proofs.notes.placing.note_place.Goals as goal

pub returns : goal.returns
returns c =
    one_place c.args.version c.args.place c.args.rounded c.args.greatest c.vsize_word.result c.saturating_sub-vsize_at.result
    c.args.notes.now.items c.note_if.new.notes.items c.note_if-2.new.notes.items c.note_if-3.new.notes.items
    c.vsize_word.ensures (c.saturating_sub-vsize_at.ensures ∙ ap (λ n. c.args.place.begin_at - n) c.count_width.ensures)
    c.in_ok-note_if.ensures.notes c.in_ok-note_if-2.ensures.notes c.in_ok-note_if-3.ensures.notes
