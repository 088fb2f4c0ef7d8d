use Rattle.ncc_csv.proofs.Joining as proofs
use Rattle.ncc_csv.proofs.laws.rows_join.Goals as goal

pub returns : goal.returns
returns c = proofs.rows_join
