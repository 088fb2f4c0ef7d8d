use Rattle.std.proofs.Common.{◌≡◌, ◌++◌, length}
use Rattle.ncc_lines.specs.Words.{name_text}
use Rattle.ncc_lines.specs.Sends.{SentUpTo}
use Rattle.ncc_lines.proofs.page.send_name.Given as goal

abbrev pub invariant-loop-rest : goal.invariant-loop-rest
invariant-loop-rest g l = record {
  so_far : SentUpTo (g.W.Sink.put l.fn.sink) (g.W.Sink.put l.sink) (l.fn.page.items ++ name_text l.name) (l.page.items ++ name_text l.rest);
  count : g.W.Sink.failures l.sink ≡ g.W.Sink.failures l.fn.sink;
}

abbrev pub decreases-loop-rest : goal.decreases-loop-rest
decreases-loop-rest g l = length l.rest
