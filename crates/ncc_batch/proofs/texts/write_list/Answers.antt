use Rattle.std.proofs.Common.{subst}
use Rattle.ncc_json.specs.declared.wording.Wording.{Wording}
use Rattle.ncc_batch.specs.Answered.{IsFaultIn}
use Rattle.ncc_answers.specs.declared.work.Work.TheVariants as works
use Rattle.ncc_batch.proofs.texts.write_list.Goals as goal

pub returns-in-Words-clause-memory : goal.returns-in-Words-clause-memory
returns-in-Words-clause-memory g c = λ told text fault.
    c.list_store_engine.ensures.memory told text
    (subst (λ (w : Wording). IsFaultIn (works.List c.args.limit c.args.style w) (g.S.Store.bytes c.args.store.now) text) c.in-Words.is fault)
