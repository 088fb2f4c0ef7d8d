use Rattle.ncc_header.proofs.Ends.{dimids_end}
use Rattle.ncc_header.proofs.rules.var.next_dimid.Goals as goal

pub returns-then-left-eq0-clause-left : goal.returns-then-left-eq0-clause-left
returns-then-left-eq0-clause-left c =
    let l = c.args.partial.now.lists in
    dimids_end l.parts l.vars l.var c.args.left c.if-left-eq0.true
