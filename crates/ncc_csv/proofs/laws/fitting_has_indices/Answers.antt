use Rattle.ncc_csv.proofs.Fitting as proofs
use Rattle.ncc_csv.proofs.laws.fitting_has_indices.Goals as goal

pub returns : goal.returns
returns c = proofs.fitting_has_indices
