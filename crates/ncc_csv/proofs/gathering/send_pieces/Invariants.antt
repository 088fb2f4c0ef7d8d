use Rattle.std.proofs.Common.{◌≡◌, ◌≤◌, ◌-◌, ◌++◌, [], take, length}
use Rattle.ncc_schema.specs.Device.{Puts}
use Rattle.ncc_csv.specs.TextRuns.{bytes_of, Gathers}
use Rattle.ncc_csv.proofs.gathering.send_pieces.Given as goal

abbrev pub invariant-loop-done : goal.invariant-loop-done
invariant-loop-done g l = record {
  within : l.done ≤ length l.values;
  empty : l.page.items ≡ [];
  sent : Gathers l.slab l.fn.gathered.number (l.fn.gathered.text.items ++ bytes_of (take l.done l.values)) l.gathered (Puts (g.W.Sink.put l.fn.sink) (g.W.Sink.put l.sink));
  count : g.W.Sink.failures l.sink ≡ g.W.Sink.failures l.fn.sink;
}

abbrev pub decreases-loop-done : goal.decreases-loop-done
decreases-loop-done g l = length l.values - l.done
