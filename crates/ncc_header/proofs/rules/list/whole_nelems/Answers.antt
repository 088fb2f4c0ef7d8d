use Rattle.ncc_header.proofs.WholeItems.{nelems_at_front}
use Rattle.ncc_header.proofs.rules.list.whole_nelems.Goals as goal

pub returns-in-Ok-clause-at_front : goal.returns-in-Ok-clause-at_front
returns-in-Ok-clause-at_front c =
    let starts = c.in_ok-n.ensures in
    nelems_at_front c.args.version c.in_ok-n.n c.args.piece.now starts.0 c.in_ok-n.after.now starts.1 starts.2 c.in-Ok.ensures
