use Rattle.std.proofs.Common.{ℕ, List, ◌++◌, take, Ok, refl, sym, ap, subst, subst₂, ◌∙◌, arith}
use Rattle.std.specs.Prelude.{is_some, not}
use Rattle.std.proofs.lemmas.List.{append-nil}
use Rattle.ncc_values.specs.Numbers.{IsBytes}
use Rattle.ncc_values.specs.BigEndian.{bytes-take, bytes-by_index}
use Rattle.ncc_header.specs.declared.fault.HeaderError.TheVariants as errors
use Rattle.ncc_header.specs.declared.state.Fed.{Fed}
use Rattle.ncc_header.specs.declared.state.State.{State}
use Rattle.ncc_header.specs.Reading.{next_of}
use Rattle.ncc_header.specs.Steps.{size_of}
use Rattle.ncc_header.specs.State.{HasTaken, HasFailedAt, IsWhole, FailedOn, limit_at, TookAt, Feeds}
use Rattle.ncc_header.proofs.Feeding.{whole_reading, has_taken_more, feeds, takes_fed, fails_after, fails_again}
use Rattle.ncc_header.proofs.Answering.{failed_not_whole, not_whole, some_size, no_size}
use Rattle.ncc_header.proofs.decoder.advance.Goals as goal

pub returns-in-Failed-clause-answers : goal.returns-in-Failed-clause-answers
returns-in-Failed-clause-answers c = λ taken t.
    let failed : FailedOn taken c.in-Failed.field-0 c.in-Failed.error = subst (λ (s : State). TookAt s taken) c.in-Failed.is t in
    subst (λ (limit : ℕ). FailedOn (taken ++ c.args.piece.now) limit c.in-Failed.error) (sym (ap limit_at c.in-Failed.is)) (fails_again taken c.args.piece.now c.in-Failed.field-0 c.in-Failed.error failed)

pub returns-in-Failed-clause-takes : goal.returns-in-Failed-clause-takes
returns-in-Failed-clause-takes c = λ taken t. fails_again taken c.args.piece.now c.in-Failed.field-0 c.in-Failed.error (subst (λ (s : State). TookAt s taken) c.in-Failed.is t)

pub returns-in-Ok-clause-answers : goal.returns-in-Ok-clause-answers
returns-in-Ok-clause-answers c = λ taken t.
    let old = c.in-Reading.reading in
    let new = c.take.new.reading in
    let took : HasTaken old taken = subst (λ (s : State). TookAt s taken) c.in-Reading.is t in
    let bytes : IsBytes c.args.piece.now = bytes-by_index c.args.piece.now (λ i. omega (arith, c.type_inv.piece i)) in
    subst₂ (λ (limit : ℕ) (fed : Fed). Feeds taken c.args.piece.now limit (Ok fed)) (sym (ap limit_at c.in-Reading.is)) (sym c.fed_of.ensures)
    (feeds old new taken c.args.piece.now c.in-Ok.used (size_of (next_of new)) bytes took c.in-Ok.ensures.takes c.in-Ok.ensures.waits c.in-Ok.ensures.within c.in-Ok.ensures.all refl)

pub returns-in-Ok-clause-takes : goal.returns-in-Ok-clause-takes
returns-in-Ok-clause-takes c = λ taken t.
    let old = c.in-Reading.reading in
    let new = c.take.new.reading in
    let took : HasTaken old taken = subst (λ (s : State). TookAt s taken) c.in-Reading.is t in
    let bytes : IsBytes c.args.piece.now = bytes-by_index c.args.piece.now (λ i. omega (arith, c.type_inv.piece i)) in
    rw c.fed_of.ensures
    (takes_fed new taken c.args.piece.now c.in-Ok.used (size_of (next_of new)) c.in-Ok.ensures.all refl
    (has_taken_more old new taken (take c.in-Ok.used c.args.piece.now) (bytes-take c.in-Ok.used c.args.piece.now bytes) took c.in-Ok.ensures.takes c.in-Ok.ensures.waits))

pub returns-clause-limit : goal.returns-clause-limit
returns-clause-limit c = sym (ap limit_at c.in-Reading.is)

pub returns-clause-answers : goal.returns-clause-answers
returns-clause-answers c = λ taken t.
    let took : HasTaken c.in-Reading.reading taken = subst (λ (s : State). TookAt s taken) c.in-Reading.is t in
    subst (λ (limit : ℕ). FailedOn (taken ++ c.args.piece.now) limit c.in-Err.error) (sym (ap limit_at c.in-Reading.is)) (fails_after c.in-Reading.reading taken c.args.piece.now c.in-Err.error took c.in-Err.ensures.fails)

pub returns-clause-takes : goal.returns-clause-takes
returns-clause-takes c = λ taken t.
    fails_after c.in-Reading.reading taken c.args.piece.now c.in-Err.error (subst (λ (s : State). TookAt s taken) c.in-Reading.is t) c.in-Err.ensures.fails

pub returns-in-Failed-clause-whole : goal.returns-in-Failed-clause-whole
returns-in-Failed-clause-whole c = λ taken t w fresh.
    let failed : FailedOn taken c.in-Failed.field-0 c.in-Failed.error = subst (λ (s : State). TookAt s taken) c.in-Failed.is t in
    absurd (failed_not_whole taken c.in-Failed.field-0 c.in-Failed.error failed (λ m. fresh (subst (λ (s : State). HasFailedAt s errors.Memory) (sym c.in-Failed.is) m)) (subst (IsWhole taken) (ap limit_at c.in-Failed.is) w))

pub returns-then-is_none-clause-answers : goal.returns-then-is_none-clause-answers
returns-then-is_none-clause-answers c = λ taken t.
    let r = c.in-Reading.reading in
    let took : HasTaken r taken = subst (λ (s : State). TookAt s taken) c.in-Reading.is t in
    let whole : IsWhole taken r.limit = whole_reading r taken took (no_size (size_of (next_of r)) (ap is_some (sym c.size.ensures) ∙ c.is_none.ensures ∙ ap not c.if-is_none.true)) in
    (omega arith, subst (λ (input : List ℕ). IsWhole input (limit_at c.args.state.now)) (sym (append-nil taken)) (subst (IsWhole taken) (sym (ap limit_at c.in-Reading.is)) whole))

pub returns-in-Ok-clause-whole : goal.returns-in-Ok-clause-whole
returns-in-Ok-clause-whole c = λ taken t w fresh.
    let r = c.in-Reading.reading in
    let took : HasTaken r taken = subst (λ (s : State). TookAt s taken) c.in-Reading.is t in
    let n = some_size (size_of (next_of r)) (ap is_some (sym c.size.ensures) ∙ c.is_none.ensures ∙ ap not c.if-is_none.false) in
    absurd (not_whole r taken n.0 took n.1 (subst (IsWhole taken) (ap limit_at c.in-Reading.is) w))

pub returns-clause-whole : goal.returns-clause-whole
returns-clause-whole c = λ taken t w fresh.
    let r = c.in-Reading.reading in
    let took : HasTaken r taken = subst (λ (s : State). TookAt s taken) c.in-Reading.is t in
    let n = some_size (size_of (next_of r)) (ap is_some (sym c.size.ensures) ∙ c.is_none.ensures ∙ ap not c.if-is_none.false) in
    absurd (not_whole r taken n.0 took n.1 (subst (IsWhole taken) (ap limit_at c.in-Reading.is) w))
