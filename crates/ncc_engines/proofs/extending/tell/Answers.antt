use Rattle.std.proofs.Common.{◌≢◌, Ok, Err, refl, sym, subst, rules}
use Rattle.ncc_check.specs.declared.append_error.AppendError.TheVariants as errors
use Rattle.ncc_lines.specs.Refusals.{append_line}
use Rattle.ncc_schema.specs.declared.schema.Count.TheVariants.{Known}
use Rattle.ncc_lines.specs.Texts.{records_line}
use Rattle.ncc_answers.specs.Answers.{answer_of}
use Rattle.ncc_answers.specs.declared.answer.Answer.{Answer}
use Rattle.ncc_answers.specs.declared.answer.Answer.TheVariants.{Passed, Refused}
use Rattle.ncc_engines.proofs.Extended.{Told, told_sent}
use Rattle.ncc_engines.proofs.extending.tell.Goals as goal

pub returns-in-Ok-clause-tells : goal.returns-in-Ok-clause-tells
returns-in-Ok-clause-tells g c =
    let old = g.W.Sink.put c.args.sink.now in
    let new = g.W.Sink.put c.send_records.new.sink in
    let told = told_sent (Ok tt) c.args.records Passed (records_line (Known c.args.records)) old new c.send_records.result refl c.send_records.ensures.sent in
    subst (λ (a : Answer). Told c.args.extended c.args.records old new a) (sym c.answer_of_sent.ensures)
    (subst (λ r. Told r c.args.records old new (answer_of c.send_records.result Passed)) (sym c.in-Ok.is) told)

pub returns-else-eq-2-clause-tells : goal.returns-else-eq-2-clause-tells
returns-else-eq-2-clause-tells g c =
    let e = c.in-Err.error in
    let old = g.W.Sink.put c.args.sink.now in
    let new = g.W.Sink.put c.send_append_refusal.new.sink in
    let no_device : e ≢ errors.Device = search rules in
    let no_memory : e ≢ errors.Memory = search rules in
    let told = told_sent (Err e) c.args.records Refused (append_line e) old new c.send_append_refusal.result (no_device, no_memory, refl) c.send_append_refusal.ensures.sent in
    subst (λ (a : Answer). Told c.args.extended c.args.records old new a) (sym c.answer_of_sent-in-Err.ensures)
    (subst (λ r. Told r c.args.records old new (answer_of c.send_append_refusal.result Refused)) (sym c.in-Err.is) told)
