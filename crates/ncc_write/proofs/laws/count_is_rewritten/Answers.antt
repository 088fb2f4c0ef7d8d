use Rattle.ncc_schema.proofs.CountField.{canon_rewritten}
use Rattle.ncc_write.proofs.laws.count_is_rewritten.Goals as goal

pub returns : goal.returns
returns c = λ s places n. canon_rewritten s places n
