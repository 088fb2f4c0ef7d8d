use Rattle.std.proofs.Common.{sym, ◌∙◌, inl, inr, ⊎_elim, ap, Some}
use Rattle.test_conversions.specs.Kept.{named_of}
use Rattle.test_conversions.specs.declared.kept.Kept.{Kept}
use Rattle.test_conversions.specs.declared.step.Step.TheVariants.{Gives}
use Rattle.test_conversions.proofs.Steps.{unnamed, stepped}
use Rattle.test_conversions.proofs.kept.KeptTarget.link.Goals as goal

pub returns-in-Ok-note-clause-named : goal.returns-in-Ok-note-clause-named
returns-in-Ok-note-clause-named c = (
  unnamed c.args.self.now.log.items (sym c.args.self.now.known ∙ c.if-self.false),
  ap named_of c.in-Ok-note.ensures.ok ∙ ap Some (c.in-Ok.ensures ∙ c.deref.ensures.value),
)

pub returns-in-Ok-note-clause-names : goal.returns-in-Ok-note-clause-names
returns-in-Ok-note-clause-names c =
    stepped (λ (s : Kept). s.log.items) c.args.self.now _ _ (Gives c.in-Ok.file) c.in-Ok-note.ensures.ok
    (λ k. ⊎_elim (λ is. inr (is ∙ ap Some (c.in-Ok.ensures ∙ c.deref.ensures.value))) (λ before. inl before))
