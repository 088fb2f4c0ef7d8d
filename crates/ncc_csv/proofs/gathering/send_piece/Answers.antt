use Rattle.std.proofs.Common.{◌++◌}
use Rattle.ncc_csv.specs.TextRuns.{bytes_of}
use Rattle.ncc_csv.proofs.Filling.{full_sent}
use Rattle.ncc_csv.proofs.gathering.send_piece.Goals as goal

pub returns-clause-sent : goal.returns-clause-sent
returns-clause-sent g c =
    full_sent c.args.slab.now c.args.gathered.now.number (c.args.gathered.now.text.items ++ bytes_of c.args.values.now) c.gather_chars.new.gathered
    (g.W.Sink.put c.args.sink.now) (g.W.Sink.put c.send_page.new.sink) c.args.page.now.items c.gather_chars.new.page.items c.send_page.new.page.items c.send_page.result c.requires.empty
    c.in_ok-gather_chars.ensures c.send_page.ensures.sent c.send_page.ensures.empty
