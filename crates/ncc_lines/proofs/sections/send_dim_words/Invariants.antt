use Rattle.std.proofs.Common.{◌≡◌, ◌++◌, drop}
use Rattle.std.specs.List.{flat_map}
use Rattle.ncc_lines.specs.Texts.{dim_word}
use Rattle.ncc_lines.specs.Sends.{SentUpTo}
use Rattle.ncc_lines.proofs.sections.send_dim_words.Given as goal

abbrev pub invariant-loop-number : goal.invariant-loop-number
invariant-loop-number g l = record {
  so_far : SentUpTo (g.W.Sink.put l.fn.sink) (g.W.Sink.put l.sink) (l.fn.page.items ++ flat_map (dim_word l.dims) l.numbers) (l.page.items ++ flat_map (dim_word l.dims) (drop l.number-index l.numbers));
  count : g.W.Sink.failures l.sink ≡ g.W.Sink.failures l.fn.sink;
}
