use Rattle.std.proofs.Common.{arith}
use Rattle.ncc_values.proofs.FollowTable.{follows_at}
use Rattle.ncc_values.proofs.name.can_follow_byte.Goals as goal

pub returns : goal.returns
returns c = follows_at c.args.byte (omega arith)
