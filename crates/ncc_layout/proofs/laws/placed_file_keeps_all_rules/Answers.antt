use Rattle.ncc_layout.proofs.PlacedFiles.{keeps_rules}
use Rattle.ncc_layout.proofs.laws.placed_file_keeps_all_rules.Goals as goal

pub returns : goal.returns
returns c = λ p. keeps_rules p
