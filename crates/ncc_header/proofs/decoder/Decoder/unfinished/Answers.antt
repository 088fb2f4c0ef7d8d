use Rattle.std.proofs.Common.{◌≡◌, None, sym, ap, subst, ◌∙◌, inl}
use Rattle.ncc_header.specs.declared.reading.Reading.{Reading}
use Rattle.ncc_header.specs.Awaited.{unfinished_of}
use Rattle.ncc_header.specs.declared.fault.HeaderError.TheVariants as errors
use Rattle.ncc_header.specs.declared.state.State.{State}
use Rattle.ncc_header.specs.State.{IsSettled, limit_at, TookAt, HasFailedAt}
use Rattle.ncc_header.proofs.Feeding.{failed_lacks, whole_reading}
use Rattle.ncc_header.proofs.Nowhere.{nowhere}
use Rattle.ncc_header.proofs.decoder.Decoder.unfinished.Goals as goal

pub returns-in-Reading-clause-settled : goal.returns-in-Reading-clause-settled
returns-in-Reading-clause-settled c = λ taken t fresh none.
    let r = c.in-Reading.reading in
    subst (IsSettled taken) (sym (ap limit_at c.in-Reading.is))
    (inl (whole_reading r taken (subst (λ (s : State). TookAt s taken) c.in-Reading.is t) (nowhere r.next r.partial (subst (λ (x : Reading). unfinished_of x.next x.partial ≡ None) c.in-Reading.reading-is (sym c.where_next.ensures ∙ none)))))

pub returns-in-Failed-clause-settled : goal.returns-in-Failed-clause-settled
returns-in-Failed-clause-settled c = λ taken t fresh none.
    subst (IsSettled taken) (sym (ap limit_at c.in-Failed.is))
    (failed_lacks taken c.in-Failed.field-0 c.in-Failed.field-1 (subst (λ (s : State). TookAt s taken) c.in-Failed.is t) (λ m. fresh (subst (λ (s : State). HasFailedAt s errors.Memory) (sym c.in-Failed.is) m))).1
