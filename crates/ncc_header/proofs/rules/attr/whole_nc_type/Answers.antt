use Rattle.ncc_header.proofs.WholeItems.{nc_type_at_front}
use Rattle.ncc_header.proofs.rules.attr.whole_nc_type.Goals as goal

pub returns-in-Ok-clause-at_front : goal.returns-in-Ok-clause-at_front
returns-in-Ok-clause-at_front c =
    let starts = c.in_ok-code.ensures in
    nc_type_at_front c.args.version c.in-Ok.xtype c.in_ok-code.code c.args.piece.now starts.0 c.in_ok-code.after.now starts.1 starts.2 c.in-Ok.ensures.judged c.in-Ok.ensures.value
