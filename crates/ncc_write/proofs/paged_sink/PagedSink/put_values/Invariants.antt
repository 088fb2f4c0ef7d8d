use Rattle.std.proofs.Common.{◌≡◌, ℕ, ◌+◌, ◌≤◌, ◌*◌, ◌-◌, Ok, take}
use Rattle.ncc_values.specs.Values.{bytes_of, count_of, type_of}
use Rattle.ncc_values.specs.XType.{size_of}
use Rattle.ncc_write.specs.PagedSink.{Paged, sink_of, waiting}
use Rattle.ncc_write.specs.Streams.{Streams}
use Rattle.ncc_write.proofs.paged_sink.PagedSink.put_values.Given as goal

abbrev pub invariant-loop-done : goal.invariant-loop-done
invariant-loop-done g l = record {
  done : l.done ≤ count_of l.values;
  streams : Streams (g.W.Sink.put (sink_of l.fn.self)) (g.W.Sink.put (sink_of l.self)) (waiting l.fn.self) (waiting l.self) (take (l.done * size_of (type_of l.values)) (bytes_of l.values)) (Ok tt);
  pages : (first n : ℕ) → Paged first n l.fn.self → Paged first (n + l.done * size_of (type_of l.values)) l.self;
  count : g.W.Sink.failures (sink_of l.self) ≡ g.W.Sink.failures (sink_of l.fn.self);
}

abbrev pub decreases-loop-done : goal.decreases-loop-done
decreases-loop-done g l = count_of l.values - l.done
