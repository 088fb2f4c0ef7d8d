use Rattle.ncc_schema.proofs.CountField.{rewritten}
use Rattle.ncc_schema.proofs.laws.count_field_is_rewritten.Goals as goal

pub returns : goal.returns
returns c = rewritten
