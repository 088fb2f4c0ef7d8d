use Rattle.std.proofs.Common.{◌≡◌, ◌++◌, drop}
use Rattle.ncc_lines.specs.Texts.{dim_lines}
use Rattle.ncc_lines.specs.Sends.{SentUpTo}
use Rattle.ncc_lines.proofs.sections.send_dims.Given as goal

abbrev pub invariant-loop-number : goal.invariant-loop-number
invariant-loop-number g l = record {
  so_far : SentUpTo (g.W.Sink.put l.fn.sink) (g.W.Sink.put l.sink) (l.fn.page.items ++ dim_lines 0 l.dims) (l.page.items ++ dim_lines l.number (drop l.number l.dims));
  count : g.W.Sink.failures l.sink ≡ g.W.Sink.failures l.fn.sink;
}
