-- A store that passes some calls to another, and then fails each.
use Rattle.std.specs.Prelude.{◌≡◌, ℕ, ◌-◌, ◌<◌, List, [], length, take, nat_le, if◌then◌else◌, Result, IsErr}
use Rattle.ncc_values.specs.Failures.{joint_count, Counts}
use Rattle.ncc_store.specs.declared.fuse.FuseStore.{FuseStore}

abbrev pub fuse_inner : {S : Type 0} → FuseStore S → S
fuse_inner f = f.inner

-- the calls that it still passes
abbrev pub fuse_left : {S : Type 0} → FuseStore S → ℕ
fuse_left f = f.left

-- how many bytes of a long write it does, where it fails
abbrev pub fuse_front : {S : Type 0} → FuseStore S → ℕ
fuse_front f = f.front

-- how often it failed itself
abbrev pub fuse_own_failures : {S : Type 0} → FuseStore S → ℕ
fuse_own_failures f = f.failures

-- its own failures, and those of the store below
abbrev pub fuse_failures : {S : Type 0} → (S → ℕ) → FuseStore S → ℕ
fuse_failures failures f = joint_count f.failures (failures f.inner)

-- what a failed write of a piece does
abbrev pub failed_front : (front : ℕ) → (piece : List ℕ) → List ℕ
failed_front front piece = if nat_le (length piece) 8 then [] else take front piece

-- While calls are left, a call uses one up, and its error is one of the store below. Then each call fails.
pub record Burns {S T E : Type 0} (failures : S → ℕ) (old new : FuseStore S) (result : Result T E) : Type 0 where
  pub front : fuse_front new ≡ fuse_front old
  pub left : fuse_left new ≡ fuse_left old - 1
  pub passes : 0 < fuse_left old → Counts (failures (fuse_inner old)) (failures (fuse_inner new)) result
  pub fails : fuse_left old ≡ 0 → IsErr result
  pub count : Counts (fuse_failures failures old) (fuse_failures failures new) result
