use Rattle.ncc_header.proofs.HeaderLaws.{header_stop_stays}
use Rattle.ncc_header.proofs.laws.stop_stays.Goals as goal

pub returns : goal.returns
returns c = header_stop_stays
