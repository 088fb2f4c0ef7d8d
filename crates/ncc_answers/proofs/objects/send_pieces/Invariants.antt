use Rattle.std.proofs.Common.{◌≡◌, drop}
use Rattle.ncc_schema.proofs.Writing.{SoFar}
use Rattle.ncc_answers.specs.Shown.{pieces}
use Rattle.ncc_answers.proofs.objects.send_pieces.Given as goal

abbrev pub invariant-loop-byte : goal.invariant-loop-byte
invariant-loop-byte g l = record {
  so_far : SoFar (g.W.Sink.put l.fn.sink) (g.W.Sink.put l.sink) (pieces l.is_text l.path) (pieces l.is_text (drop l.byte-index l.path));
  count : g.W.Sink.failures l.sink ≡ g.W.Sink.failures l.fn.sink;
}
