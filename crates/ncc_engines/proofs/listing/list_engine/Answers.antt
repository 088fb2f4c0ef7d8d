use Rattle.std.proofs.Common.{List, ℕ, Option, Ok, rules, subst}
use Rattle.std.specs.Prelude.{IfSome}
use Rattle.ncc_header.specs.Answers.{AnswersOf}
use Rattle.ncc_lines.specs.Sends.{SendsAll}
use Rattle.ncc_lines.specs.Texts.{fault_line}
use Rattle.ncc_engines.proofs.SentList.{Laws, sent_list, sent_fault}
use Rattle.ncc_engines.proofs.listing.list_engine.Goals as goal

pub returns-in-Ok-clause-lists : goal.returns-in-Ok-clause-lists
returns-in-Ok-clause-lists g c =
    let laws : Laws = record { apart = c.header_or_stop.ensures.apart; one_header = c.header_or_stop.ensures.one_header; one_stop = c.header_or_stop.ensures.one_stop } in
    sent_list laws c.args.style (g.R.Source.left c.args.source.now) c.args.limit (g.W.Sink.put c.args.sink.now) (g.W.Sink.put c.send_header.new.sink) c.in-Ok.header c.send_header.result c.answer_of_sent.result
    c.in-Ok.ensures.answers c.send_header.ensures.sent c.answer_of_sent.ensures

pub returns-in-Err-Fault-clause-lists : goal.returns-in-Err-Fault-clause-lists
returns-in-Err-Fault-clause-lists g c =
    let laws : Laws = record { apart = c.header_or_stop.ensures.apart; one_header = c.header_or_stop.ensures.one_header; one_stop = c.header_or_stop.ensures.one_stop } in
    let sent : SendsAll (g.W.Sink.put c.args.sink.now) (g.W.Sink.put c.send_fault.new.sink) (fault_line c.in-Err-Fault.fault) c.send_fault.result = search rules in
    sent_fault laws c.args.style (g.R.Source.left c.args.source.now) c.args.limit (g.W.Sink.put c.args.sink.now) (g.W.Sink.put c.send_fault.new.sink) c.in-Err-Fault.fault c.in-Err-Fault.field-0 c.send_fault.result c.answer_of_sent-in-Err-Fault.result
    c.in-Err-Fault.field-0-is c.in-Err-Fault.ensures.answers sent c.answer_of_sent-in-Err-Fault.ensures

pub returns-in-Ok-clause-memory : goal.returns-in-Ok-clause-memory
returns-in-Ok-clause-memory g c = λ input text left is memory.
    let begins = subst (λ (o : Option (List ℕ)). IfSome o (λ b. AnswersOf b c.args.limit (Ok c.in-Ok.header))) left c.in-Ok.ensures.answers in
    absurd (c.header_or_stop.ensures.apart input c.args.limit c.in-Ok.header is.0 begins is.1)
