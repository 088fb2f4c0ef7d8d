use Rattle.ncc_header.proofs.HeaderLaws.{begun}
use Rattle.ncc_header.proofs.laws.header_is_begun.Goals as goal

pub returns : goal.returns
returns c = begun
