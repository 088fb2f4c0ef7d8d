-- What the calls that write leave of an open file, and how often they call its store.
use Rattle.std.specs.Prelude.{ℕ, List, Result, ◌≡◌, ◌≢◌, ◌≤◌, ◌+◌, true, false, IsTrue, IfErr, OnErr, OnOk}
use Rattle.ncc_store.specs.Store.{KeepsImages, LeavesOnly, Only, Unmoved}
use Rattle.ncc_store.specs.declared.store.Store.{Ghosts}
use Rattle.ncc_layout.specs.Placed.{file_length_of}
use Rattle.ncc_check.specs.Appending.{CountsDevice, HasRecord, HasRecordOrNot, next_record_at, with_record}
use Rattle.ncc_check.specs.Files.{must_reopen, placed_of, schema_of, store_of}
use Rattle.ncc_check.specs.declared.append_error.AppendError.{AppendError}
use Rattle.ncc_check.specs.declared.append_error.AppendError.TheVariants.{Device}
use Rattle.ncc_check.specs.declared.file.NcFile.{NcFile}

module _ {S : Type 0} {g : Ghosts S} (old new : NcFile S g) (answer : Result (Unit {0}) AppendError) where
  -- so many calls of the store at most, which read no further than before; a failure of one is counted
  pub record CallsStore (most : ℕ) : Type 0 where
    pub count : CountsDevice (g.failures (store_of old)) (g.failures (store_of new)) answer
    pub calls : g.calls (store_of new) ≤ g.calls (store_of old) + most
    pub reach : g.reach (store_of new) ≤ g.reach (store_of old)

  -- one sync: nothing is pending after it, and nothing was written; after a failure the file must be opened anew
  pub record SettlesFile : Type 0 where
    pub durable : OnOk answer (Only (g.bytes (store_of new)) (g.images (store_of new)))
    pub fresh : OnOk answer (must_reopen new ≡ false)
    pub err : OnErr answer (must_reopen new ≡ true)
    pub schema : schema_of new ≡ schema_of old
    pub placed : placed_of new ≡ placed_of old
    pub unmoved : Unmoved g.bytes g.images g.moment g.images_since (store_of old) (store_of new)
    pub kept : OnErr answer (KeepsImages (g.images (store_of old)) (g.images (store_of new)))

  -- one record more, of this image, with nothing pending; or the file as it was; or, after a failure of the device and
  -- after a stop at any moment of it, the old records or the new one too
  pub record AddsRecord (image : List ℕ) : Type 0 where
    pub unchanged : IfErr answer (λ e. e ≢ Device → new ≡ old)
    pub added : OnOk answer (HasRecord (schema_of old) (placed_of old) (schema_of new) (placed_of new)
        × (must_reopen new ≡ false))
    pub bytes : IsTrue g.tells_bytes → OnOk answer (g.bytes (store_of new)
        ≡ with_record (g.bytes (store_of old)) (schema_of old) (placed_of old) image)
    pub durable : OnOk answer (Only (g.bytes (store_of new)) (g.images (store_of new)))
    pub err : OnErr answer ((schema_of new ≡ schema_of old) × (placed_of new ≡ placed_of old))
    pub reopen : IfErr answer (λ e. e ≡ Device → must_reopen new ≡ true)
    pub front : IsTrue g.tells_bytes → OnErr answer (HasRecordOrNot (g.bytes (store_of old)) (schema_of old)
        (placed_of old) image (g.bytes (store_of new)))
    pub any_moment : IsTrue g.tells_bytes → Only (g.bytes (store_of old)) (g.images (store_of old))
        → LeavesOnly g.moment g.images_since (store_of old) (store_of new)
        (HasRecordOrNot (g.bytes (store_of old)) (schema_of old) (placed_of old) image)

  -- the calls that a record takes: one less where no bytes are missing before it
  pub record CallsForRecord : Type 0 where
    pub most : CallsStore 5
    pub whole : next_record_at (placed_of old) ≤ file_length_of (placed_of old)
        → g.calls (store_of new) ≤ g.calls (store_of old) + 4
