use Rattle.std.proofs.Common.{◌≡◌, ◌++◌, List, refl, sym, ap}
use Rattle.std.specs.List.{flat_map}
use Rattle.ncc_check.specs.declared.note.Note.{Note}
use Rattle.ncc_lines.specs.Verdicts.{ok_line, note_line, report_text}
use Rattle.ncc_lines.proofs.SendingText.{fails, first_fails, second_sends}
use Rattle.ncc_lines.proofs.verdict.send_verdict.Goals as goal

pub returns-in_err-send_ok-clause-sent : goal.returns-in_err-send_ok-clause-sent
returns-in_err-send_ok-clause-sent g c =
    let a = ok_line c.args.report.now in
    let b = flat_map note_line c.args.report.now.notes in
    fails _ _ _ _ _ c.from_residual.ensures.0 (first_fails _ _ c.args.page.now.items (report_text c.args.report.now) a b refl c.in_err-send_ok.ensures.sent)

pub returns-clause-sent : goal.returns-clause-sent
returns-clause-sent g c =
    let a = ok_line c.args.report.now in
    let b = flat_map note_line c.as_slice.result.now in
    let text = report_text c.args.report.now in
    let parts : text ≡ a ++ b = ap (λ (notes : List Note). a ++ flat_map note_line notes) (sym c.as_slice.ensures) in
    second_sends _ _ _ c.args.page.now.items c.send_ok.new.page.items _ text a b _ parts c.in_ok-send_ok.ensures.sent c.send_notes.ensures.sent
