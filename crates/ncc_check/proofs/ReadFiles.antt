-- Reads of an open file, one after another.
use Rattle.std.proofs.Common.{◌≡◌, ℕ, ◌+◌, ◌≤◌, ◌∙◌, refl, true}
use Rattle.std.specs.Prelude.{Bool, false}
use Rattle.ncc_store.specs.declared.store.Store.{Ghosts}
use Rattle.ncc_store.proofs.Reading.{reads_join, reads_bounded, reads_answered, reads_loose, reads_none, reads_within}
use Rattle.ncc_check.specs.declared.file.NcFile.{NcFile}
use Rattle.ncc_check.specs.Files.{ReadsFile, store_of}

-- reads that succeeded, and then one more
pub files_join : {S : Type 0} {g : Ghosts S} (a b c : NcFile S g) (answered : ℕ → ℕ → Type 0) (bounded : Bool) (m n k near far : ℕ)
    → ReadsFile a b (λ x y. y ≡ x) bounded m far → ReadsFile b c answered bounded n near → m + n ≤ k → near ≤ far
    → ReadsFile a c answered bounded k far
files_join {g = g} a b c answered bounded m n k near far first second most before = record {
  schema = second.schema ∙ first.schema;
  placed = second.placed ∙ first.placed;
  reopen = second.reopen ∙ first.reopen;
  reads = reads_join g (store_of a) (store_of b) (store_of c) answered bounded m n k near far first.reads second.reads most before;
}

-- the same reads, counted otherwise
pub files_bounded : {S : Type 0} {g : Ghosts S} (a c : NcFile S g) (answered : ℕ → ℕ → Type 0) (bounded : Bool) (m k far : ℕ)
    → ReadsFile a c answered bounded m far → g.calls (store_of c) ≤ g.calls (store_of a) + k → ReadsFile a c answered true k far
files_bounded {g = g} a c answered bounded m k far reads most = record {
  schema = reads.schema;
  placed = reads.placed;
  reopen = reads.reopen;
  reads = reads_bounded g (store_of a) (store_of c) answered bounded m k far reads.reads most;
}

-- the same reads, their failures told by another answer
pub files_answered : {S : Type 0} {g : Ghosts S} (a c : NcFile S g) (answered told : ℕ → ℕ → Type 0) (bounded : Bool) (m far : ℕ)
    → ReadsFile a c answered bounded m far → told (g.failures (store_of a)) (g.failures (store_of c)) → ReadsFile a c told bounded m far
files_answered {g = g} a c answered told bounded m far reads counted = record {
  schema = reads.schema;
  placed = reads.placed;
  reopen = reads.reopen;
  reads = reads_answered g (store_of a) (store_of c) answered told bounded m far reads.reads counted;
}

-- the same reads, not counted
pub files_loose : {S : Type 0} {g : Ghosts S} (a c : NcFile S g) (answered : ℕ → ℕ → Type 0) (m far : ℕ)
    → ReadsFile a c answered true m far → ReadsFile a c answered false 0 far
files_loose {g = g} a c answered m far reads = record {
  schema = reads.schema;
  placed = reads.placed;
  reopen = reads.reopen;
  reads = reads_loose g (store_of a) (store_of c) answered m far reads.reads;
}

-- the same reads, which ended before
pub files_within : {S : Type 0} {g : Ghosts S} (a c : NcFile S g) (answered : ℕ → ℕ → Type 0) (bounded : Bool) (m near far : ℕ)
    → ReadsFile a c answered bounded m near → near ≤ far → ReadsFile a c answered bounded m far
files_within {g = g} a c answered bounded m near far reads before = record {
  schema = reads.schema;
  placed = reads.placed;
  reopen = reads.reopen;
  reads = reads_within g (store_of a) (store_of c) answered bounded m near far reads.reads before;
}

-- no reads
pub files_still : {S : Type 0} {g : Ghosts S} (a : NcFile S g) (m far : ℕ) → ReadsFile a a (λ x y. y ≡ x) true m far
files_still {g = g} a m far = record {
  schema = refl;
  placed = refl;
  reopen = refl;
  reads = reads_none g (store_of a) m far;
}
