use Rattle.ncc_header.proofs.WholeItems.{dim_at_front}
use Rattle.ncc_header.proofs.rules.whole_dim.whole_dim.Goals as goal

pub returns-clause-at_front : goal.returns-clause-at_front
returns-clause-at_front c =
    dim_at_front c.args.version c.args.before.now c.in_ok-name.name.now c.in_ok-length.length c.args.piece.now c.in_ok-name.rest.now c.in_ok-length.after.now c.in_ok-name.ensures.at_front c.in_ok-length.ensures.at_front
