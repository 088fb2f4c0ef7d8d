use Rattle.std.proofs.Common.{◌≡◌, ◌⊎◌, ◌≤◌, ◌+◌, ◌*◌, ℕ, List, false, IsTrue}
use Rattle.ncc_schema.specs.Schema.{Place}
use Rattle.ncc_store.specs.Store.{LeavesOnly, Only}
use Rattle.ncc_check.specs.Files.{store_of, schema_of, placed_of, must_reopen}
use Rattle.ncc_build.specs.Dataset.{Dataset}
use Rattle.ncc_check.specs.Appending.{TakesRecord}
use Rattle.ncc_write.specs.Records.{bytes_of_record, fill_values}
use Rattle.ncc_write.specs.Extends.{Contains, HasRecords, HoldsSome, TakesRecords, filled_bytes, with_fills}
use Rattle.ncc_write.proofs.extending.extend.Given as goal

abbrev pub invariant-loop-done : goal.invariant-loop-done
invariant-loop-done g l = record {
  fresh : must_reopen l.file ≡ false;
  has : HasRecords (schema_of l.fn.file) (placed_of l.fn.file) l._done (schema_of l.file) (placed_of l.file);
  room : TakesRecords (schema_of l.fn.file) (placed_of l.fn.file) l._done;
  bytes : IsTrue g.S.Store.tells_bytes → g.S.Store.bytes (store_of l.file)
      ≡ filled_bytes (g.S.Store.bytes (store_of l.fn.file)) (schema_of l.fn.file) (placed_of l.fn.file) l._done;
  few : l._done ≤ l.more;
  takes : TakesRecord (schema_of l.fn.file) (placed_of l.fn.file);
  was_fresh : must_reopen l.fn.file ≡ false;
  image_is : l.image.items ≡ bytes_of_record (schema_of l.fn.file) (fill_values (schema_of l.fn.file));
  holds : IsTrue g.S.Store.tells_bytes → (limit : ℕ) (places : List Place) (d : Dataset)
      → Contains (g.S.Store.bytes (store_of l.fn.file)) limit places d (schema_of l.fn.file) (placed_of l.fn.file)
      → Contains (g.S.Store.bytes (store_of l.file)) limit places (with_fills d l._done) (schema_of l.file) (placed_of l.file);
  only : Only (g.S.Store.bytes (store_of l.file)) (g.S.Store.images (store_of l.file));
  moments : IsTrue g.S.Store.tells_bytes → (limit : ℕ) (places : List Place) (d : Dataset)
      → Contains (g.S.Store.bytes (store_of l.fn.file)) limit places d (schema_of l.fn.file) (placed_of l.fn.file)
      → LeavesOnly g.S.Store.moment g.S.Store.images_since (store_of l.fn.file) (store_of l.file)
      (λ c. g.S.Store.images (store_of l.fn.file) c ⊎ (∥ HoldsSome c limit places d l.more ∥₁));
  failures : g.S.Store.failures (store_of l.file) ≡ g.S.Store.failures (store_of l.fn.file);
  no_calls : l._done ≡ 0 → g.S.Store.calls (store_of l.file) ≤ g.S.Store.calls (store_of l.fn.file) + 1;
  calls : g.S.Store.calls (store_of l.file) ≤ g.S.Store.calls (store_of l.fn.file) + 1 + 4 * l._done + 1;
  reach : g.S.Store.reach (store_of l.file) ≤ g.S.Store.reach (store_of l.fn.file);
}
