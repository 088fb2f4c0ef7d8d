use Rattle.ncc_parts.proofs.Complete.{fault_told}
use Rattle.ncc_parts.proofs.laws.layout_fault_is_told.Goals as goal

pub returns : goal.returns
returns c = λ h file f legal x other. fault_told h file f.kind x.number legal.number x.first other
