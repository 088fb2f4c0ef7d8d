use Rattle.ncc_layout.proofs.EitherFault.{placed_or_first_fault}
use Rattle.ncc_layout.proofs.OneFault.{no_fault}
use Rattle.ncc_layout.proofs.laws.placed_or_fault.Goals as goal

pub returns-clause-either : goal.returns-clause-either
returns-clause-either c = λ s places header file. placed_or_first_fault s places header file

pub returns-clause-apart : goal.returns-clause-apart
returns-clause-apart c = λ s places header file kind number placed fault. no_fault s places header file kind number placed fault
