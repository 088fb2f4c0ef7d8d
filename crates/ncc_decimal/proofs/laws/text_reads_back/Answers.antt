use Rattle.ncc_decimal.proofs.Parsed.{float_text_parses, bits_again}
use Rattle.ncc_decimal.proofs.laws.text_reads_back.Goals as goal

pub returns : goal.returns
returns c = record { parses = float_text_parses; bits = bits_again }
