use Rattle.std.proofs.Common.{sym, ◌∙◌}
use Rattle.test_conversions.proofs.Steps.{unnamed}
use Rattle.test_conversions.proofs.kept.KeptTarget.look.Goals as goal

pub returns-clause-ok : goal.returns-clause-ok
returns-clause-ok c = unnamed c.args.self.now.log.items (sym c.args.self.now.known ∙ c.if-self.false)
