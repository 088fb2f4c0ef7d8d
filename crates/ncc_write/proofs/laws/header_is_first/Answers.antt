use Rattle.ncc_write.proofs.Growing.{nothing_is_whole, written_first}
use Rattle.ncc_write.proofs.laws.header_is_first.Goals as goal

pub returns : goal.returns
returns c = record { whole = nothing_is_whole; written = written_first }
