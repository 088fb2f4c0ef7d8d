use Rattle.std.proofs.Common.{◌+◌, drop, ◌∙◌}
use Rattle.std.specs.List.{flat_map}
use Rattle.ncc_lines.specs.Texts.{attr_line}
use Rattle.ncc_lines.proofs.SendingText.{fails, piece_fails, piece_sent, next_item}
use Rattle.ncc_lines.proofs.sections.send_attrs.Goals as goal

pub returns-in_err-send_attr-clause-sent : goal.returns-in_err-send_attr-clause-sent
returns-in_err-send_attr-clause-sent g c =
    let piece = attr_line c.args.style c.args.owner c.attr-item.result in
    let after = flat_map (attr_line c.args.style c.args.owner) (drop (c.loop-attr.attr-index + 1) c.args.attrs.now) in
    let parts = next_item (attr_line c.args.style c.args.owner) c.args.attrs.now c.loop-attr.attr-index c.attr-item.result c.attr-item.result c.loop-attr-test.true c.attr-item.is in
    fails _ _ _ _ _ c.from_residual.ensures.0 (piece_fails _ _ _ _ c.loop-attr.page.items _ piece after c.loop-attr.invariant.so_far parts c.in_err-send_attr.ensures.sent)

pub loop-attr-preserved : goal.loop-attr-preserved
loop-attr-preserved g c =
    let piece = attr_line c.args.style c.args.owner c.attr-item.result in
    let after = flat_map (attr_line c.args.style c.args.owner) (drop (c.loop-attr.attr-index + 1) c.args.attrs.now) in
    let parts = next_item (attr_line c.args.style c.args.owner) c.args.attrs.now c.loop-attr.attr-index c.attr-item.result c.attr-item.result c.loop-attr-test.true c.attr-item.is in
    record {
      so_far = piece_sent _ _ _ _ c.loop-attr.page.items _ piece after _ c.loop-attr.invariant.so_far parts c.in_ok-send_attr.ensures.sent;
      count = c.in_ok-send_attr.ensures.count ∙ c.loop-attr.invariant.count;
    }
