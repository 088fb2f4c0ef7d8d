use Rattle.std.proofs.Common.{◌≡◌, ◌++◌, length}
use Rattle.std.specs.Prelude.{codes}
use Rattle.ncc_schema.proofs.Writing.{SoFar}
use Rattle.ncc_answers.specs.Shown.{labelled}
use Rattle.ncc_answers.proofs.sending.send_lines.Given as goal

abbrev pub invariant-loop-rest : goal.invariant-loop-rest
invariant-loop-rest g l = record {
  so_far : SoFar (g.W.Sink.put l.fn.sink) (g.W.Sink.put l.sink) (labelled (l.path ++ codes ": ") l.text) (labelled (l.path ++ codes ": ") l.rest);
  count : g.W.Sink.failures l.sink ≡ g.W.Sink.failures l.fn.sink;
}

abbrev pub decreases-loop-rest : goal.decreases-loop-rest
decreases-loop-rest g l = length l.rest
