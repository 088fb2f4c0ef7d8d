use Rattle.std.proofs.Common.{rules, subst}
use Rattle.ncc_store.proofs.Reading.{reads_answered}
use Rattle.ncc_check.specs.declared.fault.Refusal.{Refusal}
use Rattle.ncc_check.specs.Checks.{Refuses}
use Rattle.ncc_lines.specs.Sends.{SendsAll}
use Rattle.ncc_lines.specs.Verdicts.{file_fault_line}
use Rattle.ncc_engines.proofs.SentVerdict.{Laws, sent_report, sent_file_fault}
use Rattle.ncc_engines.proofs.checking.check_engine.Goals as goal

pub returns-in-Ok-clause-checks : goal.returns-in-Ok-clause-checks
returns-in-Ok-clause-checks g c = λ told.
    let laws : Laws = record { apart = c.passing_has_no_fault.ensures.apart; one_report = c.one_report.ensures; one_fault = c.passing_has_no_fault.ensures.one_fault } in
    sent_report laws (g.S.Store.bytes c.args.store.now) c.args.limit c.args.strict (g.W.Sink.put c.args.sink.now) (g.W.Sink.put c.send_report.new.sink) c.in-Ok.report c.answer_of_report.result c.answer_of_sent.result c.send_report.result
    (c.in-Ok.ensures.answers told) c.answer_of_report.ensures c.send_report.ensures.sent c.answer_of_sent.ensures

pub returns-in-Err-Fault-clause-checks : goal.returns-in-Err-Fault-clause-checks
returns-in-Err-Fault-clause-checks g c = λ told.
    let laws : Laws = record { apart = c.passing_has_no_fault.ensures.apart; one_report = c.one_report.ensures; one_fault = c.passing_has_no_fault.ensures.one_fault } in
    let fails = subst (λ (r : Refusal). Refuses (g.S.Store.bytes c.args.store.now) c.args.limit r) c.in-Err-Fault.field-0-is (c.in-Err-Fault.ensures.answers told) in
    let sent : SendsAll (g.W.Sink.put c.args.sink.now) (g.W.Sink.put c.send_file_fault.new.sink) (file_fault_line c.in-Err-Fault.fault) c.send_file_fault.result = search rules in
    sent_file_fault laws (g.S.Store.bytes c.args.store.now) c.args.limit c.args.strict (g.W.Sink.put c.args.sink.now) (g.W.Sink.put c.send_file_fault.new.sink) c.in-Err-Fault.fault c.answer_of_sent-in-Err-Fault.result c.send_file_fault.result
    fails sent c.answer_of_sent-in-Err-Fault.ensures

pub returns-in-Ok-clause-store : goal.returns-in-Ok-clause-store
returns-in-Ok-clause-store g c =
    reads_answered g.S.Store c.args.store.now c.check.new.store _ _ g.S.Store.tells_bytes _ c.args.limit c.in-Ok.ensures.store
    record {
      quiet = search rules;
      device = search rules;
      still = search rules;
    }

pub returns-in-Ok-clause-memory : goal.returns-in-Ok-clause-memory
returns-in-Ok-clause-memory g c = λ told text is memory.
    let checks = c.in-Ok.ensures.answers told in
    absurd (c.passing_has_no_fault.ensures.apart (g.S.Store.bytes c.args.store.now) c.args.limit is.0 (checks.0, checks.1) is.1)
