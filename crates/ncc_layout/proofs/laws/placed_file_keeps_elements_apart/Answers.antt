use Rattle.ncc_layout.proofs.PlacedFiles.{own_of_file}
use Rattle.ncc_layout.proofs.laws.placed_file_keeps_elements_apart.Goals as goal

pub returns : goal.returns
returns c = λ p. own_of_file p
