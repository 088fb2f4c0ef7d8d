use Rattle.std.proofs.Common.{ℕ, sym, ap, subst, ◌∙◌}
use Rattle.ncc_header.specs.declared.fault.HeaderError.TheVariants as errors
use Rattle.ncc_header.specs.declared.state.State.{State}
use Rattle.ncc_header.specs.Fields.{header}
use Rattle.ncc_header.specs.Grammar.{lacking}
use Rattle.ncc_header.specs.State.{IsSettled, limit_at, TookAt, HasFailedAt}
use Rattle.ncc_header.proofs.Feeding.{reading_lacks, reading_settled, failed_lacks}
use Rattle.ncc_header.proofs.decoder.Decoder.wants.Goals as goal

pub returns-in-Reading-clause-lacks : goal.returns-in-Reading-clause-lacks
returns-in-Reading-clause-lacks c = λ taken t fresh.
    c.lacks.ensures ∙ sym (reading_lacks c.in-Reading.reading taken (subst (λ (s : State). TookAt s taken) c.in-Reading.is t))
    ∙ ap (λ (limit : ℕ). lacking header limit 0 taken) (sym (ap limit_at c.in-Reading.is))

pub returns-in-Reading-clause-settled : goal.returns-in-Reading-clause-settled
returns-in-Reading-clause-settled c = λ taken t fresh none.
    subst (IsSettled taken) (sym (ap limit_at c.in-Reading.is))
    (reading_settled c.in-Reading.reading taken (subst (λ (s : State). TookAt s taken) c.in-Reading.is t) (sym c.lacks.ensures ∙ none))

pub returns-in-Failed-clause-lacks : goal.returns-in-Failed-clause-lacks
returns-in-Failed-clause-lacks c = λ taken t fresh.
    (failed_lacks taken c.in-Failed.field-0 c.in-Failed.field-1 (subst (λ (s : State). TookAt s taken) c.in-Failed.is t) (λ m. fresh (subst (λ (s : State). HasFailedAt s errors.Memory) (sym c.in-Failed.is) m))).0
    ∙ ap (λ (limit : ℕ). lacking header limit 0 taken) (sym (ap limit_at c.in-Failed.is))

pub returns-in-Failed-clause-settled : goal.returns-in-Failed-clause-settled
returns-in-Failed-clause-settled c = λ taken t fresh none.
    subst (IsSettled taken) (sym (ap limit_at c.in-Failed.is))
    (failed_lacks taken c.in-Failed.field-0 c.in-Failed.field-1 (subst (λ (s : State). TookAt s taken) c.in-Failed.is t) (λ m. fresh (subst (λ (s : State). HasFailedAt s errors.Memory) (sym c.in-Failed.is) m))).1
