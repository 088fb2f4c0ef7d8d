use Rattle.ncc_header.proofs.Unmarked.{unmarked_is_canonical}
use Rattle.ncc_header.proofs.laws.unmarked_is_canonical.Goals as goal

pub returns : goal.returns
returns c = unmarked_is_canonical
