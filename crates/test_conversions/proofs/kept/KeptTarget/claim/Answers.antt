use Rattle.std.proofs.Common.{sym, ◌∙◌, inl, inr, ⊎_elim, ap, Some}
use Rattle.test_conversions.specs.declared.kept.Kept.{Kept}
use Rattle.test_conversions.specs.declared.step.Step.TheVariants.{Gives}
use Rattle.test_conversions.proofs.Steps.{unnamed, stepped}
use Rattle.test_conversions.proofs.kept.KeptTarget.claim.Goals as goal

pub returns-clause-free : goal.returns-clause-free
returns-clause-free c = unnamed c.args.self.now.log.items (sym c.args.self.now.known ∙ c.if-self.false)

pub returns-clause-names : goal.returns-clause-names
returns-clause-names c =
    stepped (λ (s : Kept). s.log.items) c.args.self.now _ _ (Gives c.new.result) c.in_ok-note.ensures.ok
    (λ k. ⊎_elim (λ is. inr (is ∙ ap Some c.new.ensures.items)) (λ before. inl before))
