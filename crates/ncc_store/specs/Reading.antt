-- What a call leaves of a store that it only reads.
use Rattle.std.specs.Prelude.{ℕ, Bool, ◌+◌, ◌≤◌, max, IsTrue}
use Rattle.ncc_store.specs.Store.{KeepsImages, Unmoved}
use Rattle.ncc_store.specs.declared.store.Store.{Ghosts}

-- nothing was written, and the failures are counted as the answer says
pub record Rests {S : Type 0} (g : Ghosts S) (old new : S) (answered : (before after : ℕ) → Type 0) : Type 0 where
  pub unmoved : Unmoved g.bytes g.images g.moment g.images_since old new
  pub kept : KeepsImages (g.images old) (g.images new)
  pub counted : answered (g.failures old) (g.failures new)

-- Nothing was written. The failures are counted as the answer says, by a relation of the old and the new count. Where
-- the calls are bounded, there were so many at most; and where something was read, it ended there or before.
pub record ReadsOnly {S : Type 0} (g : Ghosts S) (old new : S) (answered : (before after : ℕ) → Type 0) (bounded : Bool) (most furthest : ℕ) : Type 0 where
  pub unmoved : Unmoved g.bytes g.images g.moment g.images_since old new
  pub kept : KeepsImages (g.images old) (g.images new)
  pub counted : answered (g.failures old) (g.failures new)
  pub calls : IsTrue bounded → g.calls new ≤ g.calls old + most
  pub reach : g.reach new ≤ max (g.reach old) furthest
