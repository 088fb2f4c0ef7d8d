use Rattle.std.proofs.Common.{sym, subst}
use Rattle.ncc_check.specs.FromStore.{ReadsFew}
use Rattle.ncc_explain.specs.Explaining.{HasHeaderFault}
use Rattle.ncc_batch.specs.Answered.{IsFaultIn, limit_of}
use Rattle.ncc_answers.specs.declared.work.Work.{Work}
use Rattle.ncc_batch.proofs.texts.write_text.Goals as goal

pub returns-in-Check-clause-memory : goal.returns-in-Check-clause-memory
returns-in-Check-clause-memory g c = λ told text fault.
    c.check_engine.ensures.memory told text
    (subst (λ (w : Work). IsFaultIn w (g.S.Store.bytes c.args.store.now) text) c.in-Check.is fault)

pub returns-in-List-clause-memory : goal.returns-in-List-clause-memory
returns-in-List-clause-memory g c = λ told text fault.
    c.write_list.ensures.memory told text
    (subst (λ (w : Work). IsFaultIn w (g.S.Store.bytes c.args.store.now) text) c.in-List.is fault)

pub returns-in-Explain-clause-once : goal.returns-in-Explain-clause-once
returns-in-Explain-clause-once g c = λ told none.
    let bytes = g.S.Store.bytes c.args.store.now in
    let at = subst (λ (w : Work). ¬ HasHeaderFault bytes (limit_of w)) c.in-Explain.is none in
    subst (λ (w : Work). ReadsFew g.S.Store c.args.store.now c.explain_engine.new.store bytes (limit_of w) 1) (sym c.in-Explain.is)
    (c.explain_engine.ensures.once told at)
