use Rattle.std.proofs.Common.{arith, ℕ, ◌≤◌, ◌-◌, length, replicate, sym, ◌∙◌, subst, length-append}
use Rattle.std.proofs.lemmas.List.{length-replicate}
use Rattle.ncc_store.proofs.Moments.{goes_on, stays}
use Rattle.ncc_check.specs.Appending.{padded, Keeps}
use Rattle.ncc_check.proofs.Kept.{on_err, keeps_padded, keeps_written, keeps_unsynced}
use Rattle.ncc_check.proofs.staging.stage.Goals as goal

pub returns-in_err-write_at-clause-any_moment : goal.returns-in_err-write_at-clause-any_moment
returns-in_err-write_at-clause-any_moment g c told only =
    let P = Keeps (g.S.Store.bytes c.args.store.now) c.args.place in
    goes_on g.S.Store.moment g.S.Store.images_since g.S.Store.images c.args.store.now c.pad_to.new.store c.write_at.new.self P _ (c.pad_to.ensures.any_moment told only) c.write_at.ensures.images
    (λ f from. keeps_unsynced _ _ _ from.0 f (c.pad_to.ensures.kept told only from.0 from.1) from.2)

pub returns-clause-err : goal.returns-clause-err
returns-clause-err g c told =
    let old = g.S.Store.bytes c.args.store.now in
    let place = c.args.place in
    let reaches : place ≤ length (padded old place) = omega (arith, length-append old (replicate (place - length old) 0), length-replicate {A = ℕ} (place - length old) 0) in
    let is = c.sync.ensures.unmoved.same ∙ c.in_ok-write_at.ensures.ok told in
    let mid = c.in_ok-pad_to.ensures.ok told in
    on_err c.sync.result (subst (Keeps old place) (sym is) (keeps_written old place _ _ (subst (λ l. place ≤ length l) (sym mid) reaches) (subst (Keeps old place) (sym mid) (keeps_padded old place))))

pub returns-clause-any_moment : goal.returns-clause-any_moment
returns-clause-any_moment g c told only =
    let P = Keeps (g.S.Store.bytes c.args.store.now) c.args.place in
    let after_write = goes_on g.S.Store.moment g.S.Store.images_since g.S.Store.images c.args.store.now c.pad_to.new.store c.write_at.new.self P _ (c.pad_to.ensures.any_moment told only) c.write_at.ensures.images
    (λ f from. keeps_unsynced _ _ _ from.0 f (c.pad_to.ensures.kept told only from.0 from.1) from.2) in
    stays g.S.Store.moment g.S.Store.images_since g.S.Store.bytes g.S.Store.images c.args.store.now c.write_at.new.self c.sync.new.self P after_write c.sync.ensures.unmoved
