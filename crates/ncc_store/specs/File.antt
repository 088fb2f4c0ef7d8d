-- What a file's store knows, and what its calls leave.
use Rattle.std.specs.Prelude.{ℕ, Bool, Option, Result, ◌≡◌, ◌≤◌, ◌+◌, true, false, IsErr, IsSome, IsTrue, OnErr, OnOk}
use Rattle.std.specs.declared.io.Error.{Error}
use Rattle.ncc_values.specs.Failures.{Counts, Rose}
use Rattle.ncc_store.specs.Store.{KeepsImages, Unmoved}
use Rattle.ncc_store.specs.declared.file.FileStore.{FileStore}
use Rattle.ncc_store.specs.declared.system_file.SystemFile.{Ghosts}

module _ {F : Type 0} {ghosts : Ghosts F} where
  -- it was opened for writing, and no write and no sync failed since
  abbrev pub file_ready : FileStore F ghosts → Bool
  file_ready f = f.ready

  abbrev pub file_failures : FileStore F ghosts → ℕ
  file_failures f = f.failures

  -- the file below
  abbrev pub file_of : FileStore F ghosts → F
  file_of f = f.file

  -- why the last call of the file that failed did
  abbrev pub fault_of : FileStore F ghosts → Option Error
  fault_of f = f.fault

  -- one call of the file at most, which only asks: what it holds, and whether it is ready, stays
  pub record Asks {T E : Type 0} (old new : FileStore F ghosts) (answer : Result T E) : Type 0 where
    pub unmoved : Unmoved ghosts.bytes ghosts.images ghosts.moment ghosts.images_since (file_of old) (file_of new)
    pub kept : KeepsImages (ghosts.images (file_of old)) (ghosts.images (file_of new))
    pub stays : file_ready new ≡ file_ready old
    pub sound : ghosts.sound (file_of new) ≡ ghosts.sound (file_of old)
    pub once : OnOk answer (ghosts.failed (file_of new) ≡ ghosts.failed (file_of old))
    pub rose : IsTrue ghosts.tells_failures → OnErr answer (Rose (ghosts.failed (file_of old)) (ghosts.failed (file_of new)))
    pub one_call : ghosts.calls (file_of new) ≤ ghosts.calls (file_of old) + 1
    pub count : Counts (file_failures old) (file_failures new) answer
    pub fault : OnOk answer (fault_of new ≡ fault_of old)
    pub reason : OnErr answer (IsSome (fault_of new))

  -- a write or a sync: refused without a call of the file where it isn't ready, and after a failure it isn't
  pub record Alters {T E : Type 0} (old new : FileStore F ghosts) (answer : Result T E) : Type 0 where
    pub refused : file_ready old ≡ false → IsErr answer × (file_of new ≡ file_of old) × (fault_of new ≡ fault_of old)
    pub stays : OnOk answer (file_ready new ≡ true)
    pub ended : OnErr answer (file_ready new ≡ false)
    pub closed : file_ready old ≡ true → OnErr answer (ghosts.sound (file_of new) ≡ false)
    pub once : OnOk answer (ghosts.failed (file_of new) ≡ ghosts.failed (file_of old))
    pub rose : IsTrue ghosts.tells_failures → file_ready old ≡ true
        → OnErr answer (Rose (ghosts.failed (file_of old)) (ghosts.failed (file_of new)))
    pub count : Counts (file_failures old) (file_failures new) answer
    pub fault : OnOk answer (fault_of new ≡ fault_of old)
    pub reason : file_ready old ≡ true → OnErr answer (IsSome (fault_of new))
