use Rattle.std.proofs.Common.{map, length}
use Rattle.ncc_csv.specs.Runs.{slab_row, first_rows}
use Rattle.ncc_lines.proofs.SendingText.{added, page_sends}
use Rattle.ncc_csv.proofs.sending.send_block.Goals as goal

pub returns-clause-sent : goal.returns-clause-sent
returns-clause-sent g c =
    let rows = first_rows (slab_row c.args.slab.now c.args.first (map (g.T.Cell.text c.args.style) c.args.values.now)) (length c.args.values.now) in
    page_sends _ _ _ c.args.page.now.items c.put_rows.new.page.items c.send_page.new.page.items rows _ c.requires.empty
    (added (g.W.Sink.put c.args.sink.now) c.args.page.now.items c.put_rows.new.page.items rows c.in_ok-put_rows.ensures) c.send_page.ensures.sent c.send_page.ensures.empty
