use Rattle.std.proofs.Common.{◌≡◌, sym, ap, ◌∙◌, ℕ, List, Option, rules}
use denote.Enum.Bare.{sameb, same_true}
use Rattle.ncc_build.specs.Builds.{schema_of as planned_schema}
use Rattle.ncc_check.specs.Files.{store_of, placed_of}
use Rattle.ncc_answers.specs.contracts.answer.Answer.{the_type}
use Rattle.ncc_answers.specs.declared.answer.Answer.TheVariants.{Passed}
use Rattle.ncc_making.specs.Making.{IsFileOf}
use Rattle.ncc_making.proofs.Made.{whole}
use Rattle.ncc_target.proofs.Naming.{named_later, unnamed_by}
use Rattle.ncc_making.proofs.converting.convert_into.Goals as goal

pub returns-in-Ok-close-clause-made : goal.returns-in-Ok-close-clause-made
returns-in-Ok-close-clause-made g c = λ tells passed.
    let is = c.eq-passed.ensures ∙ ap (λ a. sameb the_type a Passed) passed in
    whole g.S.Store.tells_bytes (g.S.Store.bytes (store_of c.args.file.now)) (placed_of c.args.file.now)
    (planned_schema c.args.built) _ _ _ (c.in-Ok.ensures.empty tells) (c.in-Ok-close.ensures.named is)
    c.convert_engine-out.result.1 passed c.convert_engine-out.ensures.converts
    (c.convert_engine-out.ensures.whole passed) (c.convert_engine-out.ensures.reads passed)

pub returns-in-Ok-close-clause-names : goal.returns-in-Ok-close-clause-names
returns-in-Ok-close-clause-names g c = λ tells.
    named_later g.T.Target.names g.T.Target.moment g.T.Target.names_since _ _ _ _ _
    (g.T.Target.entries c.close.new.target) c.in-Ok.ensures.names
    c.in-Ok-close.ensures.names
    (λ made put.
    let passed = same_true the_type (search rules) c.convert_engine-out.result.1 Passed (sym c.eq-passed.ensures ∙ put.0) in
    whole g.S.Store.tells_bytes (g.S.Store.bytes (store_of c.args.file.now)) (placed_of c.args.file.now)
    (planned_schema c.args.built) _ _ _ (c.in-Ok.ensures.empty tells) put.1
    c.convert_engine-out.result.1 passed c.convert_engine-out.ensures.converts
    (c.convert_engine-out.ensures.whole passed) (c.convert_engine-out.ensures.reads passed))

pub returns-in-Err-clause-unnamed : goal.returns-in-Err-clause-unnamed
returns-in-Err-clause-unnamed g c = λ tells failed.
    unnamed_by c.eq-passed.result _ _ _
    (λ (k : Option (List ℕ)). k ≡ g.T.Out.Sink.put c.convert_engine-out.result.0)
    (IsFileOf g.S.Store.tells_bytes (g.S.Store.bytes (store_of c.args.file.now)) (placed_of c.args.file.now)
    (planned_schema c.args.built)) (g.T.Target.entries c.close.new.target) c.in-Ok.ensures.named (c.in-Err.ensures.unnamed tells) c.in-Err.ensures.same
    (λ is made put.
    let passed = same_true the_type (search rules) c.convert_engine-out.result.1 Passed (sym c.eq-passed.ensures ∙ is) in
    whole g.S.Store.tells_bytes (g.S.Store.bytes (store_of c.args.file.now)) (placed_of c.args.file.now)
    (planned_schema c.args.built) _ _ _ (c.in-Ok.ensures.empty tells) put
    c.convert_engine-out.result.1 passed c.convert_engine-out.ensures.converts
    (c.convert_engine-out.ensures.whole passed) (c.convert_engine-out.ensures.reads passed))

pub returns-in-Err-clause-names : goal.returns-in-Err-clause-names
returns-in-Err-clause-names g c = λ tells.
    named_later g.T.Target.names g.T.Target.moment g.T.Target.names_since _ _ _ _ _
    (g.T.Target.entries c.close.new.target) c.in-Ok.ensures.names
    c.in-Err.ensures.names
    (λ made put.
    let passed = same_true the_type (search rules) c.convert_engine-out.result.1 Passed (sym c.eq-passed.ensures ∙ put.0) in
    whole g.S.Store.tells_bytes (g.S.Store.bytes (store_of c.args.file.now)) (placed_of c.args.file.now)
    (planned_schema c.args.built) _ _ _ (c.in-Ok.ensures.empty tells) put.1
    c.convert_engine-out.result.1 passed c.convert_engine-out.ensures.converts
    (c.convert_engine-out.ensures.whole passed) (c.convert_engine-out.ensures.reads passed))
