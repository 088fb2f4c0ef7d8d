use Rattle.ncc_write.proofs.Filling.{fills_bytes}
use Rattle.ncc_write.proofs.Paddings.{length_fills, length_padding}
use Rattle.ncc_write.proofs.laws.fills_are_whole.Goals as goal

pub returns : goal.returns
returns c = record { bytes = fills_bytes; long = length_fills; padding = length_padding }
