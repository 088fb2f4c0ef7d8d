use Rattle.ncc_lines.specs.Texts.{list_text}
use Rattle.ncc_lines.proofs.SendingText.{page_fails, page_sends}
use Rattle.ncc_lines.proofs.sending.send_header.Goals as goal

pub returns-in_err-send_list-clause-sent : goal.returns-in_err-send_list-clause-sent
returns-in_err-send_list-clause-sent g c = page_fails _ _ c.new-page.result.items (list_text c.args.style c.args.header.now) _ c.new-page.ensures.items c.from_residual.ensures.0 c.in_err-send_list.ensures.sent

pub returns-clause-sent : goal.returns-clause-sent
returns-clause-sent g c =
    page_sends _ _ _ c.new-page.result.items c.send_list.new.page.items c.send_page.new.page.items (list_text c.args.style c.args.header.now) _ c.new-page.ensures.items c.in_ok-send_list.ensures.sent c.send_page.ensures.sent c.send_page.ensures.empty
