use Rattle.std.proofs.Common.{◌≡◌, ℕ, ◌+◌, ◌≤◌, ◌-◌, Ok, length, take}
use Rattle.ncc_write.specs.PagedSink.{Paged, sink_of, waiting}
use Rattle.ncc_write.specs.Streams.{Streams}
use Rattle.ncc_write.proofs.paged_sink.PagedSink.put_pieces.Given as goal

abbrev pub invariant-loop-done : goal.invariant-loop-done
invariant-loop-done g l = record {
  done : l.done ≤ length l.bytes;
  streams : Streams (g.W.Sink.put (sink_of l.fn.self)) (g.W.Sink.put (sink_of l.self)) (waiting l.fn.self) (waiting l.self)
      (take l.done l.bytes) (Ok tt);
  pages : (first n : ℕ) → Paged first n l.fn.self → Paged first (n + l.done) l.self;
  count : g.W.Sink.failures (sink_of l.self) ≡ g.W.Sink.failures (sink_of l.fn.self);
}

abbrev pub decreases-loop-done : goal.decreases-loop-done
decreases-loop-done g l = length l.bytes - l.done
