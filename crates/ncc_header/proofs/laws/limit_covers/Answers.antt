use Rattle.ncc_header.proofs.HeaderLaws.{header_limit_covers}
use Rattle.ncc_header.proofs.laws.limit_covers.Goals as goal

pub returns : goal.returns
returns c = header_limit_covers
