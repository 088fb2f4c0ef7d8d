use Rattle.std.proofs.Common.{◌≡◌, ℕ, ◌+◌, ◌*◌, ◌≤◌, ◌-◌, length, Ok, replicate}
use Rattle.std.specs.List.{concat}
use Rattle.ncc_write.specs.PagedSink.{Paged, sink_of, waiting}
use Rattle.ncc_write.specs.Streams.{Streams}
use Rattle.ncc_write.proofs.paged_sink.PagedSink.put_many.Given as goal

abbrev pub invariant-loop-left : goal.invariant-loop-left
invariant-loop-left g l = record {
  left : l.left ≤ l.count;
  streams : Streams (g.W.Sink.put (sink_of l.fn.self)) (g.W.Sink.put (sink_of l.self)) (waiting l.fn.self) (waiting l.self) (concat (replicate (l.count - l.left) l.fill)) (Ok tt);
  pages : (first n : ℕ) → Paged first n l.fn.self → Paged first (n + (l.count - l.left) * length l.fill) l.self;
  count : g.W.Sink.failures (sink_of l.self) ≡ g.W.Sink.failures (sink_of l.fn.self);
}

abbrev pub decreases-loop-left : goal.decreases-loop-left
decreases-loop-left g l = l.left
