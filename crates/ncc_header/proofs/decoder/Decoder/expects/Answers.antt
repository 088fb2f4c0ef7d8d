use Rattle.std.proofs.Common.{◌≡◌, ℕ, ◌+◌, ◌≤◌, ◌++◌, length, sym, ap, subst, ◌∙◌, arith}
use Rattle.ncc_header.specs.declared.fault.HeaderError.TheVariants as errors
use Rattle.ncc_header.specs.declared.state.State.{State}
use Rattle.ncc_header.specs.Fields.{header}
use Rattle.ncc_header.specs.Grammar.{lacking}
use Rattle.ncc_header.specs.State.{IsSettled, IsWhole, limit_at, TookAt, HasFailedAt}
use Rattle.ncc_header.proofs.Expecting.{reading_fewest, reading_within, reading_more, reading_ends}
use Rattle.ncc_header.proofs.Feeding.{failed_lacks}
use Rattle.ncc_header.proofs.decoder.Decoder.expects.Goals as goal

pub returns-in-Reading-clause-fewest : goal.returns-in-Reading-clause-fewest
returns-in-Reading-clause-fewest c = λ taken more t w.
    let r = c.in-Reading.reading in
    rw c.expects.ensures (reading_fewest r taken more (subst (λ (s : State). TookAt s taken) c.in-Reading.is t) (subst (IsWhole (taken ++ more)) (ap limit_at c.in-Reading.is) w))

pub returns-in-Reading-clause-within : goal.returns-in-Reading-clause-within
returns-in-Reading-clause-within c = λ taken t some.
    let r = c.in-Reading.reading in
    subst (λ (limit : ℕ). length taken + c.expects.result ≤ limit) (sym (ap limit_at c.in-Reading.is))
    (rw c.expects.ensures (reading_within r taken (subst (λ (s : State). TookAt s taken) c.in-Reading.is t) (rw c.expects.ensures at some)))

pub returns-in-Reading-clause-more : goal.returns-in-Reading-clause-more
returns-in-Reading-clause-more c = λ taken t fresh.
    let r = c.in-Reading.reading in
    subst (λ (limit : ℕ). lacking header limit 0 taken ≤ c.expects.result) (sym (ap limit_at c.in-Reading.is))
    (rw c.expects.ensures (reading_more r taken (subst (λ (s : State). TookAt s taken) c.in-Reading.is t)))

pub returns-in-Failed-clause-more : goal.returns-in-Failed-clause-more
returns-in-Failed-clause-more c = λ taken t fresh.
    let none : 0 ≡ lacking header c.in-Failed.field-0 0 taken =
    (failed_lacks taken c.in-Failed.field-0 c.in-Failed.field-1 (subst (λ (s : State). TookAt s taken) c.in-Failed.is t) (λ m. fresh (subst (λ (s : State). HasFailedAt s errors.Memory) (sym c.in-Failed.is) m))).0 in
    subst (λ (limit : ℕ). lacking header limit 0 taken ≤ 0) (sym (ap limit_at c.in-Failed.is)) (omega (arith, none))

pub returns-in-Reading-clause-settled : goal.returns-in-Reading-clause-settled
returns-in-Reading-clause-settled c = λ taken t fresh none.
    subst (IsSettled taken) (sym (ap limit_at c.in-Reading.is))
    (reading_ends c.in-Reading.reading taken (subst (λ (s : State). TookAt s taken) c.in-Reading.is t) (sym c.expects.ensures ∙ none))

pub returns-in-Failed-clause-settled : goal.returns-in-Failed-clause-settled
returns-in-Failed-clause-settled c = λ taken t fresh none.
    subst (IsSettled taken) (sym (ap limit_at c.in-Failed.is))
    (failed_lacks taken c.in-Failed.field-0 c.in-Failed.field-1 (subst (λ (s : State). TookAt s taken) c.in-Failed.is t) (λ m. fresh (subst (λ (s : State). HasFailedAt s errors.Memory) (sym c.in-Failed.is) m))).1
