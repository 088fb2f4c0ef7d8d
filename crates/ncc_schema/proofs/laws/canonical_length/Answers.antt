use Rattle.ncc_schema.proofs.CanonicalLength.{canonical_length}
use Rattle.ncc_schema.proofs.laws.canonical_length.Goals as goal

pub returns : goal.returns
returns c = canonical_length
