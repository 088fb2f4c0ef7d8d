use Rattle.ncc_schema.proofs.Fours.{header_aligned}
use Rattle.ncc_schema.proofs.laws.header_is_aligned.Goals as goal

pub returns : goal.returns
returns c = header_aligned
