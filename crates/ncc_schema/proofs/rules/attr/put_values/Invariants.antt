use Rattle.std.proofs.Common.{◌≡◌, ◌*◌, ◌-◌, ◌≤◌, drop}
use Rattle.ncc_values.specs.Values.{bytes_of}
use Rattle.ncc_schema.proofs.Writing.{SoFar}
use Rattle.ncc_schema.proofs.rules.attr.put_values.Given as goal

abbrev pub invariant-loop-first : goal.invariant-loop-first
invariant-loop-first g l = record {
  so_far : SoFar (g.W.Sink.put l.fn.sink) (g.W.Sink.put l.sink) (bytes_of l.values) (drop (l.first * l.size) (bytes_of l.values));
  count : g.W.Sink.failures l.sink ≡ g.W.Sink.failures l.fn.sink;
  within : l.first ≤ l.number;
}

abbrev pub decreases-loop-first : goal.decreases-loop-first
decreases-loop-first g l = l.number - l.first
