use Rattle.std.proofs.Common.{sym, ap, ◌∙◌}
use Rattle.ncc_header.specs.Left.{var_list, with_attrs}
use Rattle.ncc_header.proofs.Ends.{attrs_end}
use Rattle.ncc_header.proofs.rules.attr.next_attr.Goals as goal

pub returns-in-File-clause-left : goal.returns-in-File-clause-left
returns-in-File-clause-left c =
    let l = c.args.partial.now.lists in
    ap (λ attrs. var_list l.parts attrs.items) c.replace.ensures.value
    ∙ ap (λ o. with_attrs o l.parts l.vars l.var l.attrs.items) (sym c.in-File.is)
    ∙ attrs_end c.args.owner l l.attrs.items c.args.left c.if-left-eq0.true
