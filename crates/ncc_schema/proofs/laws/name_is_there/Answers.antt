use Rattle.ncc_schema.proofs.NamesThere.{name_is_there}
use Rattle.ncc_schema.proofs.laws.name_is_there.Goals as goal

pub returns : goal.returns
returns c = name_is_there
