use Rattle.std.proofs.Common.{ℕ, ◌+◌, OnOk, sym, subst}
use Rattle.ncc_write.specs.PagedSink.{Paged}
use Rattle.ncc_write.proofs.Pages.{length_copies}
use Rattle.ncc_write.proofs.paged_sink.PagedSink.put_fills.Goals as goal

pub returns-then-count-fill-clause-pages : goal.returns-then-count-fill-clause-pages
returns-then-count-fill-clause-pages g c = λ first n p.
    subst (λ (k : ℕ). OnOk c.fill_some.result (Paged first (n + k) c.fill_some.new.self))
    (sym (length_copies c.args.count c.args.fill.now)) (c.fill_some.ensures.pages first n p)
