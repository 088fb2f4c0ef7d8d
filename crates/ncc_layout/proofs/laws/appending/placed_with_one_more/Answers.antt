use Rattle.ncc_layout.proofs.OneMoreRoom.{with_record}
use Rattle.ncc_layout.proofs.laws.appending.placed_with_one_more.Goals as goal

pub returns : goal.returns
returns c = λ s places header file more n first known placed further least room. with_record s places header file more n known placed further first least room
