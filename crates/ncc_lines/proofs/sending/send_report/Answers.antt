use Rattle.ncc_lines.specs.Verdicts.{report_text}
use Rattle.ncc_lines.proofs.SendingText.{page_sends}
use Rattle.ncc_lines.proofs.sending.send_report.Goals as goal

pub returns-clause-sent : goal.returns-clause-sent
returns-clause-sent g c =
    page_sends _ _ _ c.new-page.result.items c.send_verdict.new.page.items c.send_page.new.page.items (report_text c.args.report.now) _ c.new-page.ensures.items c.in_ok-send_verdict.ensures.sent c.send_page.ensures.sent c.send_page.ensures.empty
