use Rattle.std.proofs.Common.{◌∙◌, inl, inr, ⊎_elim, ap, Some}
use Rattle.test_conversions.specs.declared.kept.Kept.{Kept}
use Rattle.test_conversions.specs.declared.step.Step.TheVariants.{Gives}
use Rattle.test_conversions.proofs.Steps.{stepped}
use Rattle.test_conversions.proofs.kept.KeptTarget.rename.Goals as goal

pub returns-clause-names : goal.returns-clause-names
returns-clause-names c =
    stepped (λ (s : Kept). s.log.items) c.args.self.now _ _ (Gives c.in-Ok.file) c.in_ok-note.ensures.ok
    (λ k. ⊎_elim (λ is. inr (is ∙ ap Some (c.in-Ok.ensures ∙ c.deref.ensures.value))) (λ before. inl before))
