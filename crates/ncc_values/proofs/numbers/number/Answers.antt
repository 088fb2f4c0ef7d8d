use Rattle.std.proofs.Common.{refl, ◌∙◌}
use Rattle.ncc_values.proofs.Reading.{number_of-big_number}
use Rattle.ncc_values.proofs.numbers.number.Goals as goal

pub returns-in_default : goal.returns-in_default
returns-in_default c = c.read_uint.ensures ∙ number_of-big_number _ c.args.bytes.now refl
