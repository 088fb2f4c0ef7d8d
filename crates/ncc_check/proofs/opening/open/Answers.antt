use Rattle.std.proofs.Common.{subst, sym}
use Rattle.ncc_check.specs.FromStore.{ReadsFew}
use Rattle.ncc_check.proofs.opening.open.Goals as goal

pub returns-in-Ok-clause-settled : goal.returns-in-Ok-clause-settled
returns-in-Ok-clause-settled g c = λ told.
    subst (λ s. ReadsFew g.S.Store c.args.store s (g.S.Store.bytes c.args.store) c.args.limit 1) (sym c.new.ensures.store) (c.examine.ensures.settled told)
