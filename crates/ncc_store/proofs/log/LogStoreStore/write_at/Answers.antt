use Rattle.std.proofs.Common.{inl, inr, ⊎_elim, sym, ap, ◌∙◌, subst, List, ℕ, length, take, drop}
use Rattle.ncc_store.specs.Store.{written, AfterWrite}
use Rattle.ncc_store.specs.Log.{images_after}
use Rattle.ncc_store.proofs.Replay.{write_moments, write_images, write_torn}
use Rattle.ncc_store.proofs.log.LogStoreStore.write_at.Goals as goal

pub returns-in-Ok-clause-images : goal.returns-in-Ok-clause-images
returns-in-Ok-clause-images c =
    let log = c.in-Ok.ensures.logged in
    let old = c.args.self.now in
    let new = c.write_logged.new in
    let is_gone = log.is_gone ∙ ap (λ l. take (length l) (drop c.args.place old.bytes.items)) (sym log.is_piece) in
    let is_new = c.in-Ok.ensures.written ∙ ap (λ (l : List ℕ). written old.bytes.items c.args.place l) (sym log.is_piece) in
    let time = write_moments old.bytes.items c.args.place log.copy log.kept c.requires.begin is_gone old.calls.items new.calls.items old.replaced.items new.replaced.items new.bytes.items is_new log.calls log.replaced in
    let after = λ (image : List ℕ) (here : images_after new.calls.items new.replaced.items new.bytes.items image).
    subst (λ (l : List ℕ). AfterWrite c.args.place l (images_after old.calls.items old.replaced.items old.bytes.items) image) log.is_piece
    (write_images old.bytes.items c.args.place log.copy log.kept c.requires.begin is_gone old.calls.items new.calls.items old.replaced.items new.replaced.items new.bytes.items is_new log.calls log.replaced image here) in
    record {
      later = time.longer;
      now = after;
      nothing_else = λ t image le left. ⊎_elim (λ past. inl past) (λ here. inr (after image here)) (time.nothing_else t image le left);
      keeps = time.keeps;
    }

pub returns-in-Ok-clause-torn : goal.returns-in-Ok-clause-torn
returns-in-Ok-clause-torn c =
    let log = c.in-Ok.ensures.logged in
    let old = c.args.self.now in
    let new = c.write_logged.new in
    let is_gone = log.is_gone ∙ ap (λ l. take (length l) (drop c.args.place old.bytes.items)) (sym log.is_piece) in
    let is_new = c.in-Ok.ensures.written ∙ ap (λ (l : List ℕ). written old.bytes.items c.args.place l) (sym log.is_piece) in
    λ image torn. write_torn old.bytes.items c.args.place log.copy log.kept c.requires.begin is_gone old.calls.items new.calls.items old.replaced.items new.replaced.items new.bytes.items is_new log.calls log.replaced image
    (subst (λ (l : List ℕ). AfterWrite c.args.place l (images_after old.calls.items old.replaced.items old.bytes.items) image) (sym log.is_piece) torn)
