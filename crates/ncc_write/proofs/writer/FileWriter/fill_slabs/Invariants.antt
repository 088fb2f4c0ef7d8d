use Rattle.std.proofs.Common.{◌≡◌, ◌-◌, ℕ, List, Option, false}
use Rattle.ncc_write.specs.Writer.{Stands, sink_in}
use Rattle.ncc_write.specs.Writing.{WriterState}
use Rattle.ncc_write.proofs.AllFills.{FillsOn}
use Rattle.ncc_write.proofs.writer.FileWriter.fill_slabs.Given as goal

abbrev pub invariant-loop-self : goal.invariant-loop-self
invariant-loop-self g l = record {
  fills : (start : Option (List ℕ)) (w : WriterState) → Stands start (g.W.Sink.put (sink_in l.fn.self)) l.fn.self w → w.failed ≡ false → FillsOn start (g.W.Sink.put (sink_in l.self)) l.self w;
  count : g.W.Sink.failures (sink_in l.self) ≡ g.W.Sink.failures (sink_in l.fn.self);
}

abbrev pub decreases-loop-self : goal.decreases-loop-self
decreases-loop-self g l = l.self.slab_order.slabs - l.self.slab
