use Rattle.std.proofs.Common.{◌<◌, length, ◌∙◌, arith}
use Rattle.ncc_check.proofs.Lists.{step_on}
use Rattle.ncc_check.proofs.notes.names.step_to.Goals as goal

pub loop-item-preserved : goal.loop-item-preserved
loop-item-preserved g c =
    let items = c.args.items.now in
    let o = c.loop-item.item in
    let there : o.number < length items = omega (arith, c.loop-item-test.true, c.requires.order.1) in
    record {
      within = omega (arith, c.loop-item-test.true);
      stands = λ start was.
          c.saturating_add-item.ensures
          ∙ step_on (g.T.Item.canon c.args.version) start items o.number c.index-items-item.result o.offset c.size.result there c.index-items-item.is c.size.ensures (c.loop-item.invariant.stands start was);
    }
