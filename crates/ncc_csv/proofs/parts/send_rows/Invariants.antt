use Rattle.std.proofs.Common.{◌≡◌, ◌≤◌, ◌+◌, ◌-◌, ℕ, drop}
use Rattle.std.specs.Prelude.{IsTrue, false}
use Rattle.ncc_schema.specs.Device.{Puts}
use Rattle.ncc_layout.specs.Elements.{var_at}
use Rattle.ncc_layout.specs.Placed.{file_length_of, record_size_of_file, vars_of}
use Rattle.ncc_check.specs.Files.{ReadsFile, store_of, placed_of}
use Rattle.ncc_values.specs.XType.{size_of}
use Rattle.ncc_slab.specs.Stretches.{all_stretches}
use Rattle.ncc_slab.specs.SlabParts.{BeginsParts, parts_left, parts_length, parts_type}
use Rattle.ncc_csv.specs.Sheets.{part_rows}
use Rattle.ncc_csv.proofs.parts.send_rows.Given as goal

abbrev pub invariant-loop-done : goal.invariant-loop-done
invariant-loop-done g l = record {
  within : l.done ≤ l.all;
  left : parts_left l.parts ≡ drop l.done (parts_left l.fn.parts);
  type_is : parts_type l.parts ≡ parts_type l.fn.parts;
  long : parts_length l.parts ≡ parts_length l.fn.parts;
  sent : IsTrue g.S.Store.tells_bytes → (number : ℕ) → BeginsParts (placed_of l.fn.file) number l.slab l.fn.parts
      → Puts (g.W.Sink.put l.fn.sink) (g.W.Sink.put l.sink) (part_rows l.style (g.S.Store.bytes (store_of l.fn.file)) (record_size_of_file (placed_of l.fn.file)) (var_at (vars_of (placed_of l.fn.file)) number) l.slab 0 l.done);
  file : ReadsFile l.fn.file l.file (λ before after. after ≡ before) false 0 (file_length_of (placed_of l.fn.file));
  calls : g.S.Store.calls (store_of l.file) + all_stretches (size_of (parts_type l.fn.parts)) (parts_left l.parts) ≤ g.S.Store.calls (store_of l.fn.file) + all_stretches (size_of (parts_type l.fn.parts)) (parts_left l.fn.parts);
  sink_count : g.W.Sink.failures l.sink ≡ g.W.Sink.failures l.fn.sink;
}

abbrev pub decreases-loop-done : goal.decreases-loop-done
decreases-loop-done g l = l.all - l.done
