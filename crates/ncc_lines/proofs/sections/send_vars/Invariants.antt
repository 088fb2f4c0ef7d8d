use Rattle.std.proofs.Common.{◌≡◌, ◌++◌, drop}
use Rattle.ncc_lines.specs.Texts.{var_texts}
use Rattle.ncc_lines.specs.Sends.{SentUpTo}
use Rattle.ncc_lines.proofs.sections.send_vars.Given as goal

abbrev pub invariant-loop-number : goal.invariant-loop-number
invariant-loop-number g l = record {
  so_far : SentUpTo (g.W.Sink.put l.fn.sink) (g.W.Sink.put l.sink) (l.fn.page.items ++ var_texts l.style l.dims l.places 0 l.vars) (l.page.items ++ var_texts l.style l.dims l.places l.number (drop l.number l.vars));
  count : g.W.Sink.failures l.sink ≡ g.W.Sink.failures l.fn.sink;
}
