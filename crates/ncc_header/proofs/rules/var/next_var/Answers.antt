use Rattle.ncc_header.proofs.Ends.{vars_end}
use Rattle.ncc_header.proofs.rules.var.next_var.Goals as goal

pub returns-then-left-eq0-clause-left : goal.returns-then-left-eq0-clause-left
returns-then-left-eq0-clause-left c =
    let l = c.args.partial.now.lists in
    vars_end l.parts l.vars l.vars.left c.if-left-eq0.true
