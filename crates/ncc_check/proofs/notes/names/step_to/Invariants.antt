use Rattle.std.proofs.Common.{◌≤◌, ◌-◌}
use Rattle.ncc_check.specs.Noting.{StepsOn}
use Rattle.ncc_check.proofs.notes.names.step_to.Given as goal

abbrev pub invariant-loop-item : goal.invariant-loop-item
invariant-loop-item g l = record {
  within : l.item.number ≤ l.number;
  stands : StepsOn (g.T.Item.canon l.version) l.items l.fn.item l.item;
}

abbrev pub decreases-loop-item : goal.decreases-loop-item
decreases-loop-item g l = l.number - l.item.number
