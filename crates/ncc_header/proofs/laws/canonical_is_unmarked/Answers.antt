use Rattle.ncc_header.proofs.CanonicalMarks.{canonical_is_unmarked}
use Rattle.ncc_header.proofs.laws.canonical_is_unmarked.Goals as goal

pub returns : goal.returns
returns c = λ s places legal typed. canonical_is_unmarked s places (c.canonical_header.ensures s places legal typed)
