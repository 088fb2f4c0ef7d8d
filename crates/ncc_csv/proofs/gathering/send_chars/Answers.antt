use Rattle.std.proofs.Common.{◌++◌}
use Rattle.ncc_lines.specs.Sends.{PutsFront}
use Rattle.ncc_csv.specs.TextRuns.{bytes_of}
use Rattle.ncc_csv.proofs.Filling.{fails_full, fills_none}
use Rattle.ncc_csv.proofs.PartRows.{no_front}
use Rattle.ncc_csv.proofs.gathering.send_chars.Goals as goal

pub returns-in_err-heads-clause-sent : goal.returns-in_err-heads-clause-sent
returns-in_err-heads-clause-sent g c =
    let old = c.args.gathered.now in
    let put = g.W.Sink.put c.args.sink.now in
    let bytes = old.text.items ++ bytes_of c.args.values.now in
    fails_full c.args.slab.now old.number bytes _ put put c.from_residual.result c.from_residual.ensures.0 (fills_none c.args.slab.now old.number bytes (PutsFront put put) (no_front put _))
