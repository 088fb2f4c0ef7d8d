use Rattle.ncc_header.proofs.WholeItems.{var_tail_at_front}
use Rattle.ncc_header.proofs.rules.whole_var.whole_tail.Goals as goal

pub returns-clause-at_front : goal.returns-clause-at_front
returns-clause-at_front c name ids notes =
    var_tail_at_front c.args.version name ids notes c.in_ok-xtype.xtype c.in_ok-vsize.vsize c.in_ok-begin.begin c.args.piece.now c.in_ok-xtype.rest.now c.in_ok-vsize.rest.now c.in_ok-begin.after.now
    c.in_ok-xtype.ensures.at_front c.in_ok-vsize.ensures.at_front c.in_ok-begin.ensures.starts
