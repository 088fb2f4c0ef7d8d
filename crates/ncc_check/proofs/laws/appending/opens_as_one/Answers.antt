use Rattle.ncc_check.proofs.Reopening.{as_one}
use Rattle.ncc_check.proofs.laws.appending.opens_as_one.Goals as goal

pub returns : goal.returns
returns c = as_one c.header_or_stop.ensures.one_header
