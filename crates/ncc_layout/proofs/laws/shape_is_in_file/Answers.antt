use Rattle.ncc_layout.proofs.ShapesInFile.{shape_in_file}
use Rattle.ncc_layout.proofs.laws.shape_is_in_file.Goals as goal

pub returns : goal.returns
returns c = λ p n there. shape_in_file p (c.placed_file_keeps_all_rules.ensures p) n there
