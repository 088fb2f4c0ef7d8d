use Rattle.ncc_decimal.proofs.OneText.{float_text_is, one_float_text}
use Rattle.ncc_decimal.proofs.laws.float_text_is_the_text.Goals as goal

pub returns : goal.returns
returns c = record { is = float_text_is; only = one_float_text }
