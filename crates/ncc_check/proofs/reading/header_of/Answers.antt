use Rattle.std.proofs.Common.{ℕ, Ok, Err, subst, ◌∙◌, ◌≡◌, ap}
use Rattle.ncc_header.specs.Answers.{Answers}
use Rattle.ncc_check.specs.FromStore.{HasEnough, ReadsFew}
use Rattle.ncc_check.proofs.FromStore.{final_header, final_refusal, never_memory}
use Rattle.ncc_check.specs.declared.fault.Refusal.TheVariants.{Memory}
use Rattle.ncc_check.proofs.reading.header_of.Goals as goal

pub returns-in-Ok-clause-reads : goal.returns-in-Ok-clause-reads
returns-in-Ok-clause-reads g c = λ told.
    let bytes = g.S.Store.bytes c.args.store.now in
    let fed = c.in_ok-feed_front.ensures in
    let same = fed.limit ∙ c.new-decoder.ensures.limit in
    let enough : HasEnough bytes c.args.limit fed.ok.0 = subst (λ (l : ℕ). HasEnough bytes l fed.ok.0) c.new-decoder.ensures.limit (fed.ok.2 told) in
    final_header bytes fed.ok.0 c.args.limit c.in-Ok.header enough (subst (λ (l : ℕ). Answers fed.ok.0 l (Ok c.in-Ok.header)) same (c.in-Ok.ensures.answers fed.ok.0 fed.ok.1))

pub returns-in-Err-clause-reads : goal.returns-in-Err-clause-reads
returns-in-Err-clause-reads g c = λ told.
    let bytes = g.S.Store.bytes c.args.store.now in
    let fed = c.in_ok-feed_front.ensures in
    let same = fed.limit ∙ c.new-decoder.ensures.limit in
    let enough : HasEnough bytes c.args.limit fed.ok.0 = subst (λ (l : ℕ). HasEnough bytes l fed.ok.0) c.new-decoder.ensures.limit (fed.ok.2 told) in
    final_refusal c.header_is_begun.ensures c.header_or_stop.ensures.apart c.limit_covers.ensures bytes fed.ok.0 c.args.limit c.in-Err.error c.from.result c.from.ensures enough
    (subst (λ (l : ℕ). Answers fed.ok.0 l (Err c.in-Err.error)) same (c.in-Err.ensures.answers fed.ok.0 fed.ok.1))

pub returns-in_err-feed_front-clause-settled : goal.returns-in_err-feed_front-clause-settled
returns-in_err-feed_front-clause-settled g c = λ told.
    subst (λ (l : ℕ). ReadsFew g.S.Store c.args.store.now c.feed_front.new.store (g.S.Store.bytes c.args.store.now) l 0) c.new-decoder.ensures.limit (c.feed_front.ensures.settled told)

pub returns-in-Ok-clause-settled : goal.returns-in-Ok-clause-settled
returns-in-Ok-clause-settled g c = λ told.
    subst (λ (l : ℕ). ReadsFew g.S.Store c.args.store.now c.feed_front.new.store (g.S.Store.bytes c.args.store.now) l 0) c.new-decoder.ensures.limit (c.feed_front.ensures.settled told)

pub returns-in-Err-clause-settled : goal.returns-in-Err-clause-settled
returns-in-Err-clause-settled g c = λ told.
    subst (λ (l : ℕ). ReadsFew g.S.Store c.args.store.now c.feed_front.new.store (g.S.Store.bytes c.args.store.now) l 0) c.new-decoder.ensures.limit (c.feed_front.ensures.settled told)

pub returns-in-Err-clause-memory : goal.returns-in-Err-clause-memory
returns-in-Err-clause-memory g c is =
    let same : c.from.result ≡ Memory = cc in
    absurd (never_memory c.feed_front.new.decoder c.in-Err.error c.from.result c.from.ensures same c.in_ok-feed_front.ensures.fresh (λ memory. c.in-Err.ensures.memory (ap Err memory)))
