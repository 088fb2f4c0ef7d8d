use Rattle.ncc_c.proofs.Shapes.{found_shapes}
use Rattle.ncc_c.proofs.laws.shapes_are_those_of_rows.Goals as goal

pub returns : goal.returns
returns c = found_shapes
