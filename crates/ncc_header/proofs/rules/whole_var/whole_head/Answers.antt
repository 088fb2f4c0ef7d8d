use Rattle.ncc_header.proofs.WholeItems.{var_head_at_front, if_err}
use Rattle.ncc_header.proofs.rules.whole_var.whole_head.Goals as goal

pub returns-clause-at_front : goal.returns-clause-at_front
returns-clause-at_front c =
    var_head_at_front c.args.version c.args.dims.now c.in-Some.text.now c.in-Some-2.found.ids.items c.in-Some-whole_attrs_head.attrs
    c.args.piece.now c.in-Some.rest.now c.in-Some-2.found.after.now c.in-Some-whole_attrs_head.after.now
    c.in-Some.ensures.at_front (rw c.in-Some-2.is at c.in_ok-found.ensures.at_front) c.in-Some-whole_attrs_head.ensures.at_front

pub returns-in_err-found-clause-needs : goal.returns-in_err-found-clause-needs
returns-in_err-found-clause-needs c =
    if_err c.from_residual.result _ (c.in-Some.text.now, c.in-Some.rest.now, c.in-Some.ensures.at_front, c.in_err-found.ensures.needs)
