use Rattle.ncc_csv.proofs.Joining as proofs
use Rattle.ncc_csv.proofs.laws.all_are_selected.Goals as goal

pub returns : goal.returns
returns c = proofs.all_are_selected
