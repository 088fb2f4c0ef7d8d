use Rattle.std.proofs.Common.{◌≡◌, []}
use Rattle.ncc_schema.specs.Device.{Puts}
use Rattle.ncc_csv.specs.Runs.{first_rows}
use Rattle.ncc_csv.specs.TextRuns.{numbered_row}
use Rattle.ncc_csv.proofs.empty_texts.send_empty_rows.Given as goal

abbrev pub invariant-loop-number : goal.invariant-loop-number
invariant-loop-number g l = record {
  sent : Puts (g.W.Sink.put l.fn.sink) (g.W.Sink.put l.sink) (first_rows (λ k. numbered_row l.slab k []) l.number);
  count : g.W.Sink.failures l.sink ≡ g.W.Sink.failures l.fn.sink;
}
