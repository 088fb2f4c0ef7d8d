use Rattle.std.proofs.Common.{◌≡◌, ℕ, List, Option, false, length}
use Rattle.ncc_write.specs.Writer.{Stands, sink_in}
use Rattle.ncc_write.specs.Writing.{WriterState}
use Rattle.ncc_write.proofs.TripPuts.{PutSoFar}
use Rattle.ncc_write.proofs.trip_putting.put_all.Given as goal

abbrev pub invariant-loop-var : goal.invariant-loop-var
invariant-loop-var g l =
    (start : Option (List ℕ)) (w : WriterState) → Stands start (g.W.Sink.put (sink_in l.fn.writer)) l.fn.writer w
    → w.failed ≡ false → PutSoFar start (g.W.Sink.put (sink_in l.writer)) l.writer w l.bytes l.rest

abbrev pub decreases-loop-var : goal.decreases-loop-var
decreases-loop-var g l = length l.rest
