use Rattle.ncc_layout.proofs.OneMoreRoom.{in_longer}
use Rattle.ncc_layout.proofs.laws.appending.placed_in_longer.Goals as goal

pub returns : goal.returns
returns c = λ s places header file more n known placed further. in_longer s places header file more n known placed further
