use Rattle.ncc_schema.proofs.Canonical.{canonical_header}
use Rattle.ncc_schema.proofs.laws.canonical_header.Goals as goal

pub returns : goal.returns
returns c = canonical_header
