use Rattle.std.proofs.Common.{◌≡◌, ◌≤◌, ◌+◌, length}
use Rattle.ncc_schema.proofs.Writing.{SoFar}
use Rattle.ncc_schema.proofs.sink.write_all.Given as goal

abbrev pub invariant-loop-rest : goal.invariant-loop-rest
invariant-loop-rest g l = record { so_far : SoFar (g.W.Sink.put l.fn.sink) (g.W.Sink.put l.sink) l.bytes l.rest; counts : g.W.Sink.failures l.sink ≡ g.W.Sink.failures l.fn.sink; called : g.W.Sink.calls l.sink + length l.rest ≤ g.W.Sink.calls l.fn.sink + length l.bytes }

abbrev pub decreases-loop-rest : goal.decreases-loop-rest
decreases-loop-rest g l = length l.rest
