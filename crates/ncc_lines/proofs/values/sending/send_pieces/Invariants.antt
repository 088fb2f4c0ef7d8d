use Rattle.std.proofs.Common.{◌≡◌, ◌++◌, length}
use Rattle.std.specs.List.{flat_map}
use Rattle.ncc_lines.specs.Sends.{SentUpTo}
use Rattle.ncc_lines.proofs.values.sending.send_pieces.Given as goal

abbrev pub invariant-loop-rest : goal.invariant-loop-rest
invariant-loop-rest g l = record {
  so_far : SentUpTo (g.W.Sink.put l.fn.sink) (g.W.Sink.put l.sink) (l.fn.page.items ++ flat_map (g.T.Printed.text l.style) l.values) (l.page.items ++ flat_map (g.T.Printed.text l.style) l.rest);
  count : g.W.Sink.failures l.sink ≡ g.W.Sink.failures l.fn.sink;
}

abbrev pub decreases-loop-rest : goal.decreases-loop-rest
decreases-loop-rest g l = length l.rest
