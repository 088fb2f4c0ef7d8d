use Rattle.ncc_header.proofs.HeaderLaws.{either, apart, one_begins, one_fault}
use Rattle.ncc_header.proofs.laws.header_or_stop.Goals as goal

pub returns : goal.returns
returns c = record { either = either; apart = apart; one_header = one_begins; one_stop = one_fault }
