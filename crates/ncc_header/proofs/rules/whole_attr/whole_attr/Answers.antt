use Rattle.ncc_header.proofs.WholeItems.{attr_at_front}
use Rattle.ncc_header.proofs.rules.whole_attr.whole_attr.Goals as goal

pub returns-clause-at_front : goal.returns-clause-at_front
returns-clause-at_front c =
    attr_at_front c.args.version c.in_ok-name.name.now c.in_ok-xtype.xtype c.in_ok-k.k c.in_ok-values.values.now
    c.args.piece.now c.in_ok-name.rest.now c.in_ok-xtype.rest.now c.in_ok-k.rest.now c.in_ok-values.after.now
    c.in_ok-name.ensures.at_front c.in_ok-xtype.ensures.at_front c.in_ok-k.ensures.at_front c.in_ok-values.ensures.at_front
