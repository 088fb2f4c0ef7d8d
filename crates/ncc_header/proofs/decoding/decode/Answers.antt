use Rattle.std.proofs.Common.{ℕ, [], Ok, Err, subst, ◌∙◌}
use Rattle.ncc_header.specs.Answers.{Answers}
use Rattle.ncc_header.specs.State.{FailedOn, Feeds, front_taken}
use Rattle.ncc_header.proofs.Deciding.{header_or_memory, fault_or_memory, fed_answers, failed_answers}
use Rattle.ncc_header.proofs.decoding.decode.Goals as goal

pub returns-in-Err-clause-answers : goal.returns-in-Err-clause-answers
returns-in-Err-clause-answers c =
    let input = c.args.input.now in
    failed_answers input c.args.limit c.in-Err.error
    (subst (λ (limit : ℕ). FailedOn input limit c.in-Err.error) c.new-decoder.ensures.limit (c.in-Err.ensures.answers [] c.new-decoder.ensures.took))

pub returns-in-Err-clause-header : goal.returns-in-Err-clause-header
returns-in-Err-clause-header c = header_or_memory c.args.input.now c.args.limit (Err c.in-Err.error) (returns-in-Err-clause-answers c)

pub returns-in-Err-clause-fault : goal.returns-in-Err-clause-fault
returns-in-Err-clause-fault c = fault_or_memory c.args.input.now c.args.limit (Err c.in-Err.error) (returns-in-Err-clause-answers c)

pub returns-in-Ok-clause-answers : goal.returns-in-Ok-clause-answers
returns-in-Ok-clause-answers c =
    let input = c.args.input.now in
    let fed = c.in-Ok._fed in
    let new = c.new-decoder.ensures in
    let feeds : Feeds [] input c.args.limit (Ok fed) = subst (λ (limit : ℕ). Feeds [] input limit (Ok fed)) new.limit (c.in-Ok.ensures.answers [] new.took) in
    let answers : Answers (front_taken (Ok fed) input) c.args.limit c.finish.result = subst (λ (limit : ℕ). Answers (front_taken (Ok fed) input) limit c.finish.result) (c.in-Ok.ensures.limit ∙ new.limit)
    (c.finish.ensures.answers (front_taken (Ok fed) input) (c.in-Ok.ensures.takes [] new.took)) in
    fed_answers [] input c.args.limit fed c.finish.result feeds answers

pub returns-in-Ok-clause-header : goal.returns-in-Ok-clause-header
returns-in-Ok-clause-header c = header_or_memory c.args.input.now c.args.limit c.finish.result (returns-in-Ok-clause-answers c)

pub returns-in-Ok-clause-fault : goal.returns-in-Ok-clause-fault
returns-in-Ok-clause-fault c = fault_or_memory c.args.input.now c.args.limit c.finish.result (returns-in-Ok-clause-answers c)
