use Rattle.ncc_schema.proofs.BeginsThere.{begin_is_there}
use Rattle.ncc_schema.proofs.laws.begin_is_there.Goals as goal

pub returns : goal.returns
returns c = begin_is_there
