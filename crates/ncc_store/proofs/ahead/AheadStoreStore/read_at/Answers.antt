use Rattle.std.proofs.Common.{ℕ, List, ◌∙◌, ap, length, take, drop}
use Rattle.ncc_store.proofs.HeldBytes.{of_page}
use Rattle.ncc_store.proofs.ahead.AheadStoreStore.read_at.Goals as goal
use Rattle.ncc_store.proofs.ahead.AheadStoreStore.read_at.Goals.{in-Some, in-None+in_ok-read_on-in-None}

pub returns-clause-told : goal.returns-clause-told
returns-clause-told g c =
    let p = c.args.self.now in
    let n = length c.args.out.now in
    λ told. elim c.match-held_at.branch [
      | in-Some w ↦ w.out-is ∙ w.copy_from.ensures ∙ ap (λ (l : List ℕ). take n (drop w.in-Some.at l)) w.deref.ensures.value
          ∙ of_page (g.S.Store.bytes p.inner) p.page.items p.start p.held w.in-Some.at n c.args.place (p.holds told) w.in-Some.ensures.some.0 w.in-Some.ensures.some.1
      | in-None+in_ok-read_on-in-None w ↦ w.out-is ∙ w.in_ok-read_on-in-None.ensures.told told
    ]
