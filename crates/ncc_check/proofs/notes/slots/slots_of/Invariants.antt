use Rattle.std.proofs.Common.{◌≡◌, length, map}
use Rattle.ncc_check.specs.Slots.{HaveSlots}
use Rattle.ncc_check.proofs.notes.slots.slots_of.Given as goal

abbrev pub invariant-loop-item : goal.invariant-loop-item
invariant-loop-item g l = record {
  long : length l.slots.items ≡ l.count;
  told : HaveSlots (map g.T.Item.text l.items) l.item-index l.slots.items;
}
