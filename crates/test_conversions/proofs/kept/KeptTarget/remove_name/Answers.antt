use Rattle.std.proofs.Common.{inl, inr, ⊎_elim}
use Rattle.test_conversions.specs.declared.kept.Kept.{Kept}
use Rattle.test_conversions.specs.declared.step.Step.TheVariants.{Takes}
use Rattle.test_conversions.proofs.Steps.{stepped}
use Rattle.test_conversions.proofs.kept.KeptTarget.remove_name.Goals as goal

pub returns-in-Ok-clause-names : goal.returns-in-Ok-clause-names
returns-in-Ok-clause-names c =
    stepped (λ (s : Kept). s.log.items) c.args.self.now _ _ Takes c.in-Ok.ensures.ok
    (λ k. ⊎_elim (λ is. inr is) (λ before. inl before))
