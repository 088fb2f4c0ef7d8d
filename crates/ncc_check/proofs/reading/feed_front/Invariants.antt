use Rattle.std.proofs.Common.{◌≡◌, ◌⊎◌, ◌+◌, ◌%◌, ◌-◌, ◌≤◌, List, ℕ, length, take}
use Rattle.std.specs.Prelude.{IsTrue, max}
use Rattle.ncc_store.specs.Store.{Unmoved, KeepsImages}
use Rattle.ncc_header.specs.Decoder.{Took, limit_of, HasFailed}
use Rattle.ncc_header.specs.State.{GoesOn}
use Rattle.ncc_header.specs.declared.fault.HeaderError.TheVariants.{Memory}
use Rattle.ncc_check.specs.FromStore.{reads_for}
use Rattle.ncc_check.proofs.reading.feed_front.Given as goal

abbrev pub invariant-loop-at : goal.invariant-loop-at
invariant-loop-at g l = record {
  took : (taken : List ℕ) × Took l.decoder taken × (IsTrue g.S.Store.tells_bytes → taken ≡ take l.at (g.S.Store.bytes l.fn.store)) × (length taken ≡ l.at);
  fresh : ¬ HasFailed l.decoder Memory;
  limit : limit_of l.decoder ≡ limit_of l.fn.decoder;
  within : l.at ≤ l.end;
  unmoved : Unmoved g.S.Store.bytes g.S.Store.images g.S.Store.moment g.S.Store.images_since l.fn.store l.store;
  kept : KeepsImages (g.S.Store.images l.fn.store) (g.S.Store.images l.store);
  reach : g.S.Store.reach l.store ≤ max (g.S.Store.reach l.fn.store) l.at;
  calls : g.S.Store.calls l.store ≤ g.S.Store.calls l.fn.store + reads_for l.at;
  whole : (l.at % 65536 ≡ 0) ⊎ (l.at ≡ l.end);
  count : g.S.Store.failures l.store ≡ g.S.Store.failures l.fn.store;
  goes : IsTrue g.S.Store.tells_bytes → (l.at ≡ 0) ⊎ GoesOn (take l.at (g.S.Store.bytes l.fn.store)) (limit_of l.fn.decoder);
}

abbrev pub decreases-loop-at : goal.decreases-loop-at
decreases-loop-at g l = l.end - l.at
