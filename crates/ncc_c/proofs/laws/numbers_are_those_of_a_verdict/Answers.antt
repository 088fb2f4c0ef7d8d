use Rattle.ncc_c.proofs.Opened.{same_numbers}
use Rattle.ncc_c.proofs.laws.numbers_are_those_of_a_verdict.Goals as goal

pub returns : goal.returns
returns c = same_numbers c.one_finding.ensures
