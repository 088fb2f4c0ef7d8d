use Rattle.ncc_front.proofs.OneJudgement.{same_finding}
use Rattle.ncc_front.proofs.laws.one_finding.Goals as goal

pub returns : goal.returns
returns c = same_finding c.header_or_stop.ensures.one_header
