use Rattle.std.proofs.Common.{◌≡◌, Result, Ok, Err, sym, subst, ◌∙◌}
use Rattle.ncc_lines.specs.declared.send_error.SendError.{SendError}
use Rattle.ncc_lines.specs.declared.send_error.SendError.TheVariants as send_errors
use Rattle.ncc_lines.specs.Sends.{SendsAll}
use Rattle.ncc_answers.specs.declared.answer.Answer.{Answer}
use Rattle.ncc_answers.specs.declared.answer.Answer.TheVariants.{Passed}
use Rattle.ncc_answers.specs.Answers.{answer_of}
use Rattle.ncc_explain.proofs.Told.{Gone, gone, passes}
use Rattle.ncc_explain.proofs.explaining.explain_engine.Goals as goal

pub returns-in-Ok-told_of-clause-explains : goal.returns-in-Ok-told_of-clause-explains
returns-in-Ok-told_of-clause-explains g c = λ told.
    let bytes = g.S.Store.bytes c.args.store.now in
    let limit = c.args.limit in
    let strict = c.args.strict in
    let old = g.W.Sink.put c.args.sink.now in
    let new = g.W.Sink.put c.send_text.new.sink in
    let text = c.in-Ok-told_of.text.items in
    let is = c.in-Ok-told_of.ensures.told bytes (c.in-Ok.ensures.examines told) in
    let all : SendsAll old new text c.send_text.result = subst (λ t. SendsAll old new t c.send_text.result) c.deref.ensures.value c.send_text.ensures.sent in
    subst (Gone c.args.wording bytes limit strict old new) (sym c.answer_of_sent.ensures)
    (gone c.args.wording bytes limit strict old new text c.in-Ok-told_of.answer c.send_text.result c.send_text.ensures.never is all)

-- an answer stays, where it passed
passed_before : (r : Result (Unit {0}) SendError) (a : Answer) → answer_of r a ≡ Passed → a ≡ Passed
passed_before (Ok x) a e = e
passed_before (Err send_errors.Device) a e = absurd cc
passed_before (Err send_errors.Memory) a e = absurd cc

pub returns-in-Ok-told_of-clause-own : goal.returns-in-Ok-told_of-clause-own
returns-in-Ok-told_of-clause-own g c = λ told passed.
    let bytes = g.S.Store.bytes c.args.store.now in
    let limit = c.args.limit in
    let answer = c.in-Ok-told_of.answer in
    let is = c.in-Ok-told_of.ensures.told bytes (c.in-Ok.ensures.examines told) in
    let before = passed_before c.send_text.result answer (sym c.answer_of_sent.ensures ∙ passed) in
    c.passing_elements_are_apart.ensures bytes limit (passes c.args.wording bytes limit c.args.strict answer c.in-Ok-told_of.text.items before is)
