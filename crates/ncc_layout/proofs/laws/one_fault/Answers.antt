use Rattle.ncc_layout.proofs.OneFault.{one_first_fault}
use Rattle.ncc_layout.proofs.laws.one_fault.Goals as goal

pub returns : goal.returns
returns c = λ s places header file kind other number also fault again. one_first_fault s places header file kind other number also fault again
