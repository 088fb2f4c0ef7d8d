use Rattle.std.proofs.Common.{sym, ◌∙◌}
use Rattle.ncc_schema.specs.Header.{nc_attribute}
use Rattle.ncc_header.proofs.WholeItems.{list_head_at_front}
use Rattle.ncc_header.proofs.rules.list.whole_attrs_head.Goals as goal

pub returns-in-Ok-judge_list_nelems-clause-at_front : goal.returns-in-Ok-judge_list_nelems-clause-at_front
returns-in-Ok-judge_list_nelems-clause-at_front c =
    let tag = c.in_ok-tag.ensures in
    let n = c.in_ok-n.ensures in
    list_head_at_front c.args.version nc_attribute c.in_ok-tag.tag c.in_ok-n.n c.args.piece.now tag.0 c.in_ok-tag.rest.now n.0 c.in_ok-n.after.now tag.1 tag.2 n.1 n.2
    c.in-Ok.ensures c.in-Ok-judge_list_nelems.ensures (sym c.is_tagged_empty.ensures ∙ c.if-is_tagged_empty.false)
