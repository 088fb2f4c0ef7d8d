use Rattle.std.proofs.Common.{rules, sym, subst}
use Rattle.std.specs.Prelude.{Err}
use Rattle.ncc_check.specs.declared.fault.Refusal.{Refusal}
use Rattle.ncc_lines.specs.Sends.{SendsAll}
use Rattle.ncc_lines.specs.Verdicts.{file_fault_line}
use Rattle.ncc_answers.specs.declared.answer.Answer.TheVariants.{Passed, Refused}
use Rattle.ncc_answers.proofs.Sent.{Gone, sent}
use Rattle.ncc_places.specs.Measuring.{Measures}
use Rattle.ncc_places.proofs.OneLayout.{Laws, laid, faulty, one_text}
use Rattle.ncc_picture.specs.Pictures.{IsPictureText, picture_text}
use Rattle.ncc_picture.proofs.drawing.picture_engine.Goals as goal

pub returns-in-Ok-picture_text-clause-pictures : goal.returns-in-Ok-picture_text-clause-pictures
returns-in-Ok-picture_text-clause-pictures g c = λ told.
    let laws : Laws = record {
      begun_or_stopped = c.header_or_stop.ensures.apart;
      one_header = c.header_or_stop.ensures.one_header;
      one_fault = c.passing_has_no_fault.ensures.one_fault;
    } in
    let bytes = g.S.Store.bytes c.args.store.now in
    let limit = c.args.limit in
    let old = g.W.Sink.put c.args.sink.now in
    let new = g.W.Sink.put c.send_text.new.sink in
    let text = c.in-Ok-picture_text.text.items in
    let is = laid picture_text bytes limit c.in-Ok.file text (c.in-Ok.ensures.measures told) c.in-Ok-picture_text.ensures in
    let all : SendsAll old new text c.send_text.result = subst (λ t. SendsAll old new t c.send_text.result) c.deref.ensures.value c.send_text.ensures.sent in
    subst (Gone (IsPictureText bytes limit) old new) (sym c.answer_of_sent.ensures)
    (sent (IsPictureText bytes limit) (one_text laws picture_text file_fault_line bytes limit) old new text Passed c.send_text.result is is all)

pub returns-in-Err-Fault-clause-pictures : goal.returns-in-Err-Fault-clause-pictures
returns-in-Err-Fault-clause-pictures g c = λ told.
    let laws : Laws = record {
      begun_or_stopped = c.header_or_stop.ensures.apart;
      one_header = c.header_or_stop.ensures.one_header;
      one_fault = c.passing_has_no_fault.ensures.one_fault;
    } in
    let bytes = g.S.Store.bytes c.args.store.now in
    let limit = c.args.limit in
    let fault = c.in-Err-Fault.fault in
    let old = g.W.Sink.put c.args.sink.now in
    let new = g.W.Sink.put c.send_file_fault.new.sink in
    let fails = subst (λ (r : Refusal). Measures bytes limit (Err r)) c.in-Err-Fault.field-0-is (c.in-Err-Fault.ensures.measures told) in
    let is = faulty file_fault_line bytes limit fault fails in
    let all : SendsAll old new (file_fault_line fault) c.send_file_fault.result = search rules in
    subst (Gone (IsPictureText bytes limit) old new) (sym c.answer_of_sent-in-Err-Fault.ensures)
    (sent (IsPictureText bytes limit) (one_text laws picture_text file_fault_line bytes limit) old new (file_fault_line fault) Refused c.send_file_fault.result is is all)
