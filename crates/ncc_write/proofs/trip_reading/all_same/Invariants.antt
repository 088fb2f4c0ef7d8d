use Rattle.std.proofs.Common.{◌≡◌, drop}
use Rattle.ncc_check.specs.Files.{store_of, placed_of}
use Rattle.ncc_write.specs.Positions.{end_of}
use Rattle.ncc_write.specs.Trips.{AllRead}
use Rattle.ncc_write.proofs.trip_reading.all_same.Given as goal

abbrev pub invariant-loop-slab : goal.invariant-loop-slab
invariant-loop-slab g l = record {
  rest : (r : AllRead (g.S.Store.bytes (store_of l.fn.file)) (placed_of l.fn.file) l.slab_order l.bytes)
      → l.rest ≡ drop (end_of r.schema l.slab) l.bytes;
  bytes : g.S.Store.bytes (store_of l.file) ≡ g.S.Store.bytes (store_of l.fn.file);
  placed : placed_of l.file ≡ placed_of l.fn.file;
}
