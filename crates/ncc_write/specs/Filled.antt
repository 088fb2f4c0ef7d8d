-- What adding records of fill values leaves of an open file.
use Rattle.std.specs.Prelude.{ℕ, List, Result, Err, ◌≡◌, ◌≢◌, ◌⊎◌, ◌+◌, ◌*◌, ◌<◌, ◌≤◌, true, IfErr, OnErr, OnOk}
use Rattle.ncc_store.specs.Store.{LeavesOnly, Only}
use Rattle.ncc_store.specs.declared.store.Store.{Ghosts}
use Rattle.ncc_schema.specs.Schema.{Place}
use Rattle.ncc_layout.specs.Placed.{records_of_file}
use Rattle.ncc_check.specs.Appending.{IsFull}
use Rattle.ncc_check.specs.Files.{must_reopen, placed_of, schema_of, store_of}
use Rattle.ncc_check.specs.Writes.{CallsStore}
use Rattle.ncc_check.specs.declared.append_error.AppendError.{AppendError}
use Rattle.ncc_check.specs.declared.append_error.AppendError.TheVariants.{CountFull, Device}
use Rattle.ncc_check.specs.declared.file.NcFile.{NcFile}
use Rattle.ncc_build.specs.Dataset.{Dataset}
use Rattle.ncc_write.specs.Additions.{HoldsAll}
use Rattle.ncc_write.specs.Extends.{Contains, HasRecords, HoldsSome, LeavesFills, filled_bytes, with_fills}

module _ {S : Type 0} {g : Ghosts S} (old new : NcFile S g) (more : ℕ) where
  -- what it says: of its records, and whether it must be opened anew
  pub record ExtendsFile (answer : Result (Unit {0}) AppendError) : Type 0 where
    pub added : OnOk answer (HasRecords (schema_of old) (placed_of old) more (schema_of new) (placed_of new))
    pub partly : IfErr answer (λ e. ∥ LeavesFills (g.bytes (store_of old)) (schema_of old) (placed_of old)
        (schema_of new) (placed_of new) g.tells_bytes more e (g.bytes (store_of new)) ∥₁)
    pub full : IfErr answer (λ e. e ≡ CountFull → IsFull (schema_of new).version (placed_of new))
    pub none : more ≡ 0 → new ≡ old
    pub unchanged : IfErr answer (λ e. e ≢ Device → e ≢ CountFull → new ≡ old)
    pub full_at_once : IsFull (schema_of old).version (placed_of old) → OnErr answer (new ≡ old)
    pub fresh : OnOk answer (must_reopen new ≡ must_reopen old)
    pub reopen : IfErr answer (λ e. e ≡ Device → must_reopen new ≡ true)
    pub still : IfErr answer (λ e. e ≢ Device → must_reopen new ≡ must_reopen old)

  -- its bytes, where they are told
  pub record FillsBytes (answer : Result (Unit {0}) AppendError) : Type 0 where
    pub bytes : OnOk answer (g.bytes (store_of new)
        ≡ filled_bytes (g.bytes (store_of old)) (schema_of old) (placed_of old) more)
    pub holds : OnOk answer ((limit : ℕ) (places : List Place) (d : Dataset)
        → Contains (g.bytes (store_of old)) limit places d (schema_of old) (placed_of old)
        → ∥ HoldsAll (g.bytes (store_of new)) limit places (with_fills d more) ∥₁)
    pub holds_some : (limit : ℕ) (places : List Place) (d : Dataset)
        → Contains (g.bytes (store_of old)) limit places d (schema_of old) (placed_of old)
        → ∥ HoldsSome (g.bytes (store_of new)) limit places d more ∥₁

  -- what a stop at any moment of it might have left, where its bytes are told
  pub record FillsAtStop : Type 0 where
    pub any_moment : Only (g.bytes (store_of old)) (g.images (store_of old))
        → (limit : ℕ) (places : List Place) (d : Dataset)
        → Contains (g.bytes (store_of old)) limit places d (schema_of old) (placed_of old)
        → LeavesOnly g.moment g.images_since (store_of old) (store_of new) (λ c. ∥ HoldsSome c limit places d more ∥₁)
    pub whatever_was_pending : (limit : ℕ) (places : List Place) (d : Dataset)
        → Contains (g.bytes (store_of old)) limit places d (schema_of old) (placed_of old)
        → LeavesOnly g.moment g.images_since (store_of old) (store_of new)
        (λ c. g.images (store_of old) c ⊎ (∥ HoldsSome c limit places d more ∥₁))

  -- whether anything is pending after it
  pub record SettlesFills (answer : Result (Unit {0}) AppendError) : Type 0 where
    pub durable : Only (g.bytes (store_of old)) (g.images (store_of old))
        → OnOk answer (Only (g.bytes (store_of new)) (g.images (store_of new)))
    pub settled : 0 < more → OnOk answer (Only (g.bytes (store_of new)) (g.images (store_of new)))
    pub rest : (answer ≡ Err Device → ⊥) → (new ≡ old) ⊎ Only (g.bytes (store_of new)) (g.images (store_of new))

  -- the calls that the records take, and those that were added
  pub record CallsForFills (answer : Result (Unit {0}) AppendError) : Type 0 where
    pub most : CallsStore old new answer (4 * more + 2)
    pub each : g.calls (store_of new) + 4 * records_of_file (placed_of old)
        ≤ g.calls (store_of old) + 4 * records_of_file (placed_of new) + 6
    pub added : (answer ≡ Err Device → ⊥) → g.calls (store_of new) + 4 * records_of_file (placed_of old)
        ≤ g.calls (store_of old) + 4 * records_of_file (placed_of new) + 2
