use Rattle.std.proofs.Common.{◌≡◌, ◌++◌, drop}
use Rattle.std.specs.List.{flat_map}
use Rattle.ncc_lines.specs.Verdicts.{note_line}
use Rattle.ncc_lines.specs.Sends.{SentUpTo}
use Rattle.ncc_lines.proofs.verdict.send_notes.Given as goal

abbrev pub invariant-loop-note : goal.invariant-loop-note
invariant-loop-note g l = record {
  so_far : SentUpTo (g.W.Sink.put l.fn.sink) (g.W.Sink.put l.sink) (l.fn.page.items ++ flat_map note_line l.notes) (l.page.items ++ flat_map note_line (drop l.note-index l.notes));
  count : g.W.Sink.failures l.sink ≡ g.W.Sink.failures l.fn.sink;
}
