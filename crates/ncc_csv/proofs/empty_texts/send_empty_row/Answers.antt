use Rattle.ncc_csv.proofs.PartRows.{no_front}
use Rattle.ncc_csv.proofs.PartTexts.{fails}
use Rattle.ncc_csv.proofs.empty_texts.send_empty_row.Goals as goal

pub returns-in_err-page-clause-sent : goal.returns-in_err-page-clause-sent
returns-in_err-page-clause-sent g c = fails _ _ _ _ c.from_residual.ensures.0 (no_front (g.W.Sink.put c.args.sink.now) _)
