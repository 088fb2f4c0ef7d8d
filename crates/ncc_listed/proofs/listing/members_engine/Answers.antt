use Rattle.std.proofs.Common.{rules}
use Rattle.ncc_check.specs.declared.fault.FileFault.TheVariants as of
use Rattle.ncc_lines.specs.Sends.{SendsAll}
use Rattle.ncc_listed.proofs.OneList.{Laws, fault_text, listed, refused}
use Rattle.ncc_listed.proofs.listing.members_engine.Goals as goal

pub returns-in-Ok-clause-lists : goal.returns-in-Ok-clause-lists
returns-in-Ok-clause-lists g c =
    let laws : Laws = record { apart = c.header_or_stop.ensures.apart; one_header = c.header_or_stop.ensures.one_header; one_stop = c.header_or_stop.ensures.one_stop } in
    listed laws c.args.style c.args.limit (g.R.Source.left c.args.source.now) (g.W.Sink.put c.args.sink.now) (g.W.Sink.put c.send_members.new.sink) c.in-Ok.header c.send_members.result c.answer_of_sent.result
    c.in-Ok.ensures.answers c.send_members.ensures.sent c.answer_of_sent.ensures

pub returns-in-Err-Fault-clause-lists : goal.returns-in-Err-Fault-clause-lists
returns-in-Err-Fault-clause-lists g c =
    let laws : Laws = record { apart = c.header_or_stop.ensures.apart; one_header = c.header_or_stop.ensures.one_header; one_stop = c.header_or_stop.ensures.one_stop } in
    let sent : SendsAll (g.W.Sink.put c.args.sink.now) (g.W.Sink.put c.send_fault.new.sink) (fault_text (of.Header c.in-Err-Fault.fault)) c.send_fault.result = search rules in
    refused laws c.args.style c.args.limit (g.R.Source.left c.args.source.now) (g.W.Sink.put c.args.sink.now) (g.W.Sink.put c.send_fault.new.sink) c.in-Err-Fault.fault c.in-Err-Fault.field-0 c.send_fault.result c.answer_of_sent-in-Err-Fault.result
    c.in-Err-Fault.field-0-is c.in-Err-Fault.ensures.answers sent c.answer_of_sent-in-Err-Fault.ensures
