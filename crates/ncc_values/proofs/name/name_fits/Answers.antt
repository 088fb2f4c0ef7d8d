use Rattle.std.proofs.Common.{refl}
use Rattle.ncc_values.proofs.NameLemmas.{ascii_fits}
use Rattle.ncc_values.proofs.name.name_fits.Goals as goal

pub returns-then-is_plain-clause-fits : goal.returns-then-is_plain-clause-fits
returns-then-is_plain-clause-fits c =
    ((λ _. ascii_fits c.args.name.now (c.is_plain.ensures.ascii c.if-is_plain.true) (c.is_plain.ensures.characters c.if-is_plain.true)), (λ _. refl))
