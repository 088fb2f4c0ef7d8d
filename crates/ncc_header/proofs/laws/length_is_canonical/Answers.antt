use Rattle.ncc_header.proofs.HeaderLaws.{length_is_canonical}
use Rattle.ncc_header.proofs.laws.length_is_canonical.Goals as goal

pub returns : goal.returns
returns c = length_is_canonical
