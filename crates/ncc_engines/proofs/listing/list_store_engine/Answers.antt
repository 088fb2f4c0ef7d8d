use Rattle.std.proofs.Common.{Err, subst, rules}
use Rattle.ncc_check.specs.declared.fault.Refusal.{Refusal}
use Rattle.ncc_check.specs.FromStore.{ReadsHeader}
use Rattle.ncc_lines.specs.Sends.{SendsAll}
use Rattle.ncc_lines.specs.Verdicts.{file_fault_line}
use Rattle.ncc_engines.proofs.SentList.{Laws, sent_store, sent_store_fault}
use Rattle.ncc_engines.proofs.listing.list_store_engine.Goals as goal

pub returns-in-Ok-clause-lists : goal.returns-in-Ok-clause-lists
returns-in-Ok-clause-lists g c = λ told.
    let laws : Laws = record { apart = c.header_or_stop.ensures.apart; one_header = c.header_or_stop.ensures.one_header; one_stop = c.header_or_stop.ensures.one_stop } in
    sent_store laws c.args.style (g.S.Store.bytes c.args.store.now) c.args.limit (g.W.Sink.put c.args.sink.now) (g.W.Sink.put c.send_header.new.sink) c.in-Ok.header c.send_header.result c.answer_of_sent.result
    (c.in-Ok.ensures.reads told) c.send_header.ensures.sent c.answer_of_sent.ensures

pub returns-in-Err-Fault-clause-lists : goal.returns-in-Err-Fault-clause-lists
returns-in-Err-Fault-clause-lists g c = λ told.
    let laws : Laws = record { apart = c.header_or_stop.ensures.apart; one_header = c.header_or_stop.ensures.one_header; one_stop = c.header_or_stop.ensures.one_stop } in
    let bytes = g.S.Store.bytes c.args.store.now in
    let stops = subst (λ (r : Refusal). ReadsHeader bytes c.args.limit (Err r)) c.in-Err-Fault.field-0-is (c.in-Err-Fault.ensures.reads told) in
    let fault = c.in-Err-Fault.fault in
    let sent : SendsAll (g.W.Sink.put c.args.sink.now) (g.W.Sink.put c.send_file_fault.new.sink) (file_fault_line fault) c.send_file_fault.result = search rules in
    sent_store_fault laws c.args.style bytes c.args.limit (g.W.Sink.put c.args.sink.now) (g.W.Sink.put c.send_file_fault.new.sink) fault c.send_file_fault.result c.answer_of_sent-in-Err-Fault.result
    stops sent c.answer_of_sent-in-Err-Fault.ensures

pub returns-in-Ok-clause-memory : goal.returns-in-Ok-clause-memory
returns-in-Ok-clause-memory g c = λ told text is memory.
    absurd (c.header_or_stop.ensures.apart (g.S.Store.bytes c.args.store.now) c.args.limit c.in-Ok.header is.0 (c.in-Ok.ensures.reads told) is.1)
