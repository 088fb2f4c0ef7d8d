use Rattle.ncc_csv.proofs.Picking as proofs
use Rattle.ncc_csv.proofs.laws.pick_fault_is_shape_fault.Goals as goal

pub returns : goal.returns
returns c = proofs.pick_fault_is_shape_fault
