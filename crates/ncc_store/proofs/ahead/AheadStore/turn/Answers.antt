use Rattle.std.proofs.Common.{ℕ, List, sym, ap, ◌∙◌, take, drop}
use Rattle.std.proofs.lemmas.List.{with_items_is}
use Rattle.ncc_store.proofs.ahead.AheadStore.turn.Goals as goal

pub invariant_of-self-2-clause-holds : goal.invariant_of-self-2-clause-holds
invariant_of-self-2-clause-holds g c = λ told.
    ap (take c.args.count) (with_items_is c.args.self.now.page c.read_page.new.page (c.in_ok-read_page.ensures.same ∙ c.deref_mut.ensures.len))
    ∙ c.in_ok-read_page.ensures.holds told
    ∙ ap (λ (l : List ℕ). take c.args.count (drop c.args.place l)) (sym c.in_ok-read_page.ensures.unmoved.same)
