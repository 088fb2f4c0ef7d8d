use Rattle.std.proofs.Common.{sym, subst}
use Rattle.test_conversions.specs.Kept.{names_of}
use Rattle.test_conversions.specs.KeptLaws.{name_stands}
use Rattle.test_conversions.specs.declared.kept.Kept.{Kept}
use Rattle.test_conversions.specs.declared.step.Step.TheVariants.{Settles}
use Rattle.test_conversions.proofs.Steps.{noted}
use Rattle.test_conversions.proofs.kept.KeptTarget.settle_folder.Goals as goal

pub returns-clause-names : goal.returns-clause-names
returns-clause-names c =
    let log = c.args.self.now.log.items in
    noted (λ (s : Kept). s.log.items) c.args.self.now c.note.new.self (names_of log) Settles c.note.result c.note.ensures.ok
    c.note.ensures.err (λ k is. subst (names_of log) (sym is) (name_stands log)) (λ k now. now)
