use Rattle.std.proofs.Common.{◌≡◌, ◌≤◌, ◌-◌, [], map, length}
use Rattle.ncc_schema.specs.Device.{Puts}
use Rattle.ncc_csv.specs.Runs.{slab_row, first_rows}
use Rattle.ncc_csv.proofs.sending.send_blocks.Given as goal

abbrev pub invariant-loop-done : goal.invariant-loop-done
invariant-loop-done g l = record {
  within : l.done ≤ length l.values;
  empty : l.page.items ≡ [];
  sent : Puts (g.W.Sink.put l.fn.sink) (g.W.Sink.put l.sink) (first_rows (slab_row l.slab l.first (map (g.T.Cell.text l.style) l.values)) l.done);
  count : g.W.Sink.failures l.sink ≡ g.W.Sink.failures l.fn.sink;
}

abbrev pub decreases-loop-done : goal.decreases-loop-done
decreases-loop-done g l = length l.values - l.done
