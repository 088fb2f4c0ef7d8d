use Rattle.std.proofs.Common.{arith, ◌<◌, inl, inr, ⊎_elim, length}
use Rattle.std.proofs.lemmas.Bool.Decides.{nat_tests}
use Rattle.ncc_store.proofs.Pieces.{front_done, unsynced_done}
use Rattle.ncc_store.proofs.fuse.FuseStoreStore.write_at.Goals as goal

pub returns-clause-err : goal.returns-clause-err
returns-clause-err g c told =
    let some : 0 < length c.front_of-done.result.now = grind (arith, nat_tests) in
    front_done _ _ _ c.front_of-done.ensures some _ _ _ _ (c.write_at-2.ensures.ok told) (c.write_at-2.ensures.err told)

pub returns-clause-images : goal.returns-clause-images
returns-clause-images g c =
    let some : 0 < length c.front_of-done.result.now = grind (arith, nat_tests) in
    let call = c.write_at-2.ensures.images in
    record {
      later = call.later;
      now = λ image here. let from = call.now image here in (from.0, from.1, unsynced_done _ _ _ c.front_of-done.ensures some _ _ _ from.2);
      nothing_else = λ t image le left. ⊎_elim (λ past. inl past) (λ from. inr (from.0, from.1, unsynced_done _ _ _ c.front_of-done.ensures some _ _ _ from.2)) (call.nothing_else t image le left);
      keeps = call.keeps;
    }
