use Rattle.std.proofs.Common.{◌≡◌, ◌++◌, drop}
use Rattle.ncc_lines.specs.Texts.{attr_lines}
use Rattle.ncc_lines.specs.Sends.{SentUpTo}
use Rattle.ncc_lines.proofs.sections.send_attrs.Given as goal

abbrev pub invariant-loop-attr : goal.invariant-loop-attr
invariant-loop-attr g l = record {
  so_far : SentUpTo (g.W.Sink.put l.fn.sink) (g.W.Sink.put l.sink) (l.fn.page.items ++ attr_lines l.style l.owner l.attrs) (l.page.items ++ attr_lines l.style l.owner (drop l.attr-index l.attrs));
  count : g.W.Sink.failures l.sink ≡ g.W.Sink.failures l.fn.sink;
}
