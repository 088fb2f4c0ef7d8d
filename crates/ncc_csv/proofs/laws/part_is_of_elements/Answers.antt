use Rattle.ncc_csv.proofs.Joining as proofs
use Rattle.ncc_csv.proofs.laws.part_is_of_elements.Goals as goal

pub returns : goal.returns
returns c = proofs.part_is_of_elements
