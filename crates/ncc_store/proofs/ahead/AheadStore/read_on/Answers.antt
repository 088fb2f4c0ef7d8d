use Rattle.std.proofs.Common.{ℕ, List, ◌∙◌, ap, length, take, drop, arith}
use Rattle.ncc_store.specs.Ahead.{ahead_inner}
use Rattle.ncc_store.proofs.HeldBytes.{of_page}
use Rattle.ncc_store.proofs.ahead.AheadStore.read_on.Goals as goal

pub returns-clause-told : goal.returns-clause-told
returns-clause-told g c = λ told.
    let q = c.turn.new.self in
    let n = length c.args.out.now in
    let held = c.in_ok-turn.ensures.held in
    c.copy_from.ensures
    ∙ ap (λ (l : List ℕ). take n (drop 0 l)) c.deref.ensures.value
    ∙ of_page (g.S.Store.bytes (ahead_inner q)) q.page.items q.start q.held 0 n c.args.place (q.holds told)
    (omega (arith, held.0))
    (omega (arith, held.1, c.ahead_of-count.ensures.inside, c.if-count-eq0.false))
    ∙ ap (λ (l : List ℕ). take n (drop c.args.place l)) c.turn.ensures.unmoved.same
