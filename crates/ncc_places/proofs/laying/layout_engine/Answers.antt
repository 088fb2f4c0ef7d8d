use Rattle.std.proofs.Common.{sym, subst}
use Rattle.std.specs.Prelude.{Err}
use Rattle.ncc_check.specs.declared.fault.Refusal.{Refusal}
use Rattle.ncc_lines.specs.Sends.{SendsAll}
use Rattle.ncc_answers.specs.declared.answer.Answer.TheVariants.{Passed, Refused}
use Rattle.ncc_answers.proofs.Sent.{Gone, sent}
use Rattle.ncc_places.specs.Layouts.{IsLayoutText, fault_told, layout_told}
use Rattle.ncc_places.specs.Measuring.{Measures}
use Rattle.ncc_places.proofs.OneLayout.{Laws, laid, faulty, one_text}
use Rattle.ncc_places.proofs.laying.layout_engine.Goals as goal

pub returns-in-Ok-layout_told-clause-lays : goal.returns-in-Ok-layout_told-clause-lays
returns-in-Ok-layout_told-clause-lays g c = λ told.
    let laws : Laws = record {
      begun_or_stopped = c.header_or_stop.ensures.apart;
      one_header = c.header_or_stop.ensures.one_header;
      one_fault = c.passing_has_no_fault.ensures.one_fault;
    } in
    let bytes = g.S.Store.bytes c.args.store.now in
    let limit = c.args.limit in
    let wording = c.args.wording in
    let old = g.W.Sink.put c.args.sink.now in
    let new = g.W.Sink.put c.send_text.new.sink in
    let text = c.in-Ok-layout_told.text.items in
    let is = laid (layout_told wording) bytes limit c.in-Ok.file text (c.in-Ok.ensures.measures told) c.in-Ok-layout_told.ensures in
    let all : SendsAll old new text c.send_text.result = subst (λ t. SendsAll old new t c.send_text.result) c.deref.ensures.value c.send_text.ensures.sent in
    subst (Gone (IsLayoutText wording bytes limit) old new) (sym c.answer_of_sent.ensures)
    (sent (IsLayoutText wording bytes limit) (one_text laws (layout_told wording) (fault_told wording) bytes limit) old new text Passed c.send_text.result is is all)

pub returns-in-Err-Fault-clause-lays : goal.returns-in-Err-Fault-clause-lays
returns-in-Err-Fault-clause-lays g c = λ told.
    let laws : Laws = record {
      begun_or_stopped = c.header_or_stop.ensures.apart;
      one_header = c.header_or_stop.ensures.one_header;
      one_fault = c.passing_has_no_fault.ensures.one_fault;
    } in
    let bytes = g.S.Store.bytes c.args.store.now in
    let limit = c.args.limit in
    let wording = c.args.wording in
    let fault = c.in-Err-Fault.fault in
    let old = g.W.Sink.put c.args.sink.now in
    let new = g.W.Sink.put c.send_fault.new.sink in
    let fails = subst (λ (r : Refusal). Measures bytes limit (Err r)) c.in-Err-Fault.field-0-is (c.in-Err-Fault.ensures.measures told) in
    let is = faulty (fault_told wording) bytes limit fault fails in
    subst (Gone (IsLayoutText wording bytes limit) old new) (sym c.answer_of_sent-in-Err-Fault.ensures)
    (sent (IsLayoutText wording bytes limit) (one_text laws (layout_told wording) (fault_told wording) bytes limit) old new (fault_told wording fault) Refused c.send_fault.result is is c.send_fault.ensures.sent)
