use Rattle.std.proofs.Common.{◌≡◌, ◌+◌, ◌≤◌, ◌-◌, ℕ, List, Option, length}
use Rattle.std.specs.Prelude.{false}
use Rattle.ncc_layout.specs.Placed.{file_length_of}
use Rattle.ncc_check.specs.Files.{ReadsFile, store_of, placed_of}
use Rattle.ncc_write.specs.Writer.{schema_in, sink_in, taken_in}
use Rattle.ncc_write.specs.Writing.{data_length}
use Rattle.ncc_convert.specs.Copying.{Copies, pieces_left}
use Rattle.ncc_convert.proofs.copying.copy_all.Given as goal

abbrev pub invariant-loop-var : goal.invariant-loop-var
invariant-loop-var g l = record {
  room : length l.buffer ≡ 65536;
  copies : (start : Option (List ℕ)) → Copies g.S.Store.tells_bytes (g.S.Store.bytes (store_of l.fn.file))
      (placed_of l.fn.file) start (g.W.Sink.put (sink_in l.fn.writer)) l.fn.writer
      → Copies g.S.Store.tells_bytes (g.S.Store.bytes (store_of l.fn.file)) (placed_of l.fn.file)
      start (g.W.Sink.put (sink_in l.writer)) l.writer;
  planned : schema_in l.writer ≡ schema_in l.fn.writer;
  file : ReadsFile l.fn.file l.file (λ before after. after ≡ before) false 0 (file_length_of (placed_of l.fn.file));
  sink : g.W.Sink.failures (sink_in l.writer) ≡ g.W.Sink.failures (sink_in l.fn.writer);
  calls : g.S.Store.calls (store_of l.file) + pieces_left l.writer ≤ g.S.Store.calls (store_of l.fn.file) + pieces_left l.fn.writer;
}

abbrev pub decreases-loop-var : goal.decreases-loop-var
decreases-loop-var g l = data_length (schema_in l.writer) - taken_in l.writer
