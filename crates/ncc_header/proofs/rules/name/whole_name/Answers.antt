use Rattle.ncc_header.proofs.WholeItems.{name_at_front}
use Rattle.ncc_header.proofs.rules.name.whole_name.Goals as goal

pub returns-clause-at_front : goal.returns-clause-at_front
returns-clause-at_front c =
    name_at_front c.args.version c.in_ok-n.n c.args.piece.now c.in_ok-text.text.now c.in_ok-n.rest.now c.in_ok-text.after.now c.in_ok-n.ensures.at_front c.in_ok-text.ensures.at_front
