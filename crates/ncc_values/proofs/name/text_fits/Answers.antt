use Rattle.ncc_values.proofs.NameLemmas.{quick_check_text-ascii}
use Rattle.ncc_values.proofs.name.text_fits.Goals as goal

pub returns-clause-ascii : goal.returns-clause-ascii
returns-clause-ascii c = λ ascii. c.is_nfc.ensures.succeeds (quick_check_text-ascii c.in-Ok.text.now (rw c.in-Ok.ensures.cases.0 ascii))
