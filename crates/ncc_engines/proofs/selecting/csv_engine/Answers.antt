use Rattle.std.proofs.Common.{◌≡◌, List, ℕ, Option, Some, ap, sym, subst, ◌∙◌, arith}
use Rattle.ncc_schema.specs.declared.schema.Header.{Header}
use Rattle.ncc_schema.specs.declared.schema.Schema.{Schema}
use Rattle.ncc_check.specs.declared.fault.Refusal.{Refusal}
use Rattle.ncc_check.specs.Checks.{Refuses}
use Rattle.ncc_check.specs.Files.{store_of, schema_of, placed_of}
use Rattle.ncc_check.specs.Passes.{PassesWith}
use Rattle.ncc_csv.specs.Named.{IsFirstNamed}
use Rattle.ncc_engines.specs.Selecting.{Contents, contents_in, contents_of, refusal, value_calls, IsCsvText, IsSelection}
use Rattle.ncc_answers.specs.declared.answer.Answer.TheVariants.{Refused}
use Rattle.ncc_answers.proofs.Checked.{checked_by}
use Rattle.ncc_answers.proofs.Sent.{Gone}
use Rattle.ncc_engines.proofs.SentTable.{Laws, OneAnswer, opened_contents, refused_in, sent_opened, sent_fault}
use Rattle.ncc_engines.proofs.selecting.csv_engine.Goals as goal

pub returns-in-Ok-clause-selects : goal.returns-in-Ok-clause-selects
returns-in-Ok-clause-selects g c = λ told.
    let laws : Laws = record { apart = c.passing_has_no_fault.ensures.apart; one_header = c.header_or_stop.ensures.one_header; one_fault = c.passing_has_no_fault.ensures.one_fault } in
    let f = c.in-Ok.opened in
    let old = g.W.Sink.put c.args.sink.now in
    let new = g.W.Sink.put c.select-answer.new.sink in
    let gone = subst (λ (b : List ℕ). Gone (IsSelection (contents_in b (schema_of f) (placed_of f)) c.args.name.now c.args.pick c.args.style c.args.texts) old new c.select-answer.result) c.in-Ok.ensures.store.unmoved.same (c.select-answer.ensures.selects told) in
    sent_opened laws (g.S.Store.bytes c.args.store) c.args.limit c.args.name.now c.args.pick c.args.style c.args.texts (schema_of f) (placed_of f) (c.in-Ok.ensures.passes told) old new c.select-answer.result gone

pub returns-in-Fault-clause-selects : goal.returns-in-Fault-clause-selects
returns-in-Fault-clause-selects g c = λ told.
    let fails = subst (λ (r : Refusal). Refuses (g.S.Store.bytes c.args.store) c.args.limit r) c.in-Fault.is (c.in-Err.ensures.refused told) in
    let one : OneAnswer (IsCsvText (g.S.Store.bytes c.args.store) c.args.limit c.args.name.now c.args.pick c.args.style c.args.texts) = λ a b t u x y. c.one_csv_text.ensures (g.S.Store.bytes c.args.store) c.args.limit c.args.name.now c.args.pick c.args.style c.args.texts a b t u x y in
    sent_fault (g.S.Store.bytes c.args.store) c.args.limit c.args.name.now c.args.pick c.args.style c.args.texts one (g.W.Sink.put c.args.sink.now) (g.W.Sink.put c.send_file_fault.new.sink) c.in-Fault.fault c.answer_of_sent.result c.send_file_fault.result
    fails c.send_file_fault.ensures.sent c.answer_of_sent.ensures

pub returns-in-Ok-clause-calls : goal.returns-in-Ok-clause-calls
returns-in-Ok-clause-calls g c = λ told checked by.
    let f = c.in-Ok.opened in
    let bytes = g.S.Store.bytes c.args.store in
    let o = c.in-Ok.ensures.passes told in
    let few = checked_by _ _ bytes c.args.limit checked (c.in-Ok.ensures.store.calls told) (c.in-Ok.ensures.settled told).calls by in
    let opened : Contents = contents_in (g.S.Store.bytes (store_of f)) (schema_of f) (placed_of f) in
    let same : (h : Header) → PassesWith bytes c.args.limit h → h ≡ o.header =
    λ h passes. c.header_or_stop.ensures.one_header bytes c.args.limit h o.header passes.begins o.passes.begins in
    let named : (h : Header) → PassesWith bytes c.args.limit h → (number : Option ℕ) → IsFirstNamed h.schema.vars c.args.name.now number
    → IsFirstNamed (schema_of f).vars c.args.name.now number =
    λ h passes number is. subst (λ (s : Schema). IsFirstNamed s.vars c.args.name.now number)
    (ap (λ (k : Header). k.schema) (same h passes) ∙ sym o.schema_is) is in
    let contents : (h : Header) → PassesWith bytes c.args.limit h → opened ≡ contents_of bytes h =
    λ h passes. ap (λ (b : List ℕ). contents_in b (schema_of f) (placed_of f)) c.in-Ok.ensures.store.unmoved.same
    ∙ opened_contents bytes c.args.limit (schema_of f) (placed_of f) o
    ∙ ap (contents_of bytes) (sym (same h passes)) in
    record {
      passed = λ h passes number is. omega (
        arith,
        c.select-answer.ensures.calls number (named h passes number is),
        few,
        ap (λ (k : Contents). value_calls k c.args.pick number) (contents h passes),
        ap g.S.Store.calls c.into_store.ensures,
      );
      refused = λ h passes number is fault refused. omega (
        arith,
        ap g.S.Store.calls (c.select-answer.ensures.refused number (named h passes number is) fault
            (subst (λ (k : Contents). refusal k c.args.pick number ≡ Some fault) (sym (contents h passes)) refused)),
        few,
        ap g.S.Store.calls c.into_store.ensures,
      );
      stopped = λ fails. absurd (fails (o.header, o.passes));
      stopped_at = λ fails. absurd (fails (o.header, o.passes));
    }

pub returns-in-Fault-clause-calls : goal.returns-in-Fault-clause-calls
returns-in-Fault-clause-calls g c = λ told checked by.
    let few = checked_by _ _ (g.S.Store.bytes c.args.store) c.args.limit checked (c.in-Err.ensures.store.calls told) (c.in-Err.ensures.settled told).calls by in
    record {
      passed = λ h passes number is. omega (arith, few);
      refused = λ h passes number is fault refused. few;
      stopped = λ fails. few;
      stopped_at = λ fails. (c.in-Err.ensures.settled told).reach;
    }

pub returns-in-Device-clause-calls : goal.returns-in-Device-clause-calls
returns-in-Device-clause-calls g c = λ told checked by.
    let few = checked_by _ _ (g.S.Store.bytes c.args.store) c.args.limit checked (c.in-Err.ensures.store.calls told) (c.in-Err.ensures.settled told).calls by in
    record {
      passed = λ h passes number is. omega (arith, few);
      refused = λ h passes number is fault refused. few;
      stopped = λ fails. few;
      stopped_at = λ fails. (c.in-Err.ensures.settled told).reach;
    }

pub returns-clause-calls : goal.returns-clause-calls
returns-clause-calls g c = λ told checked by.
    let few = checked_by _ _ (g.S.Store.bytes c.args.store) c.args.limit checked (c.in-Err.ensures.store.calls told) (c.in-Err.ensures.settled told).calls by in
    record {
      passed = λ h passes number is. omega (arith, few);
      refused = λ h passes number is fault refused. few;
      stopped = λ fails. few;
      stopped_at = λ fails. (c.in-Err.ensures.settled told).reach;
    }

pub returns-in-Ok-clause-memory : goal.returns-in-Ok-clause-memory
returns-in-Ok-clause-memory g c = λ told text is memory.
    let laws : Laws = record { apart = c.passing_has_no_fault.ensures.apart; one_header = c.header_or_stop.ensures.one_header; one_fault = c.passing_has_no_fault.ensures.one_fault } in
    let f = c.in-Ok.opened in
    let selection = refused_in laws (g.S.Store.bytes c.args.store) c.args.limit c.args.name.now c.args.pick c.args.style c.args.texts (schema_of f) (placed_of f) (c.in-Ok.ensures.passes told) text is in
    let same = sym c.in-Ok.ensures.store.unmoved.same in
    c.select-answer.ensures.memory text
    (subst (λ (b : List ℕ). IsSelection (contents_in b (schema_of f) (placed_of f)) c.args.name.now c.args.pick c.args.style c.args.texts Refused text) same selection) memory
