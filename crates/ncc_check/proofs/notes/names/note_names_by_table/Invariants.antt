use Rattle.std.proofs.Common.{◌≤◌, map}
use Rattle.ncc_check.specs.Noting.{Adds, FirstNameNotes, IsItemOffset, offsets_from}
use Rattle.ncc_check.specs.Slots.{Seen}
use Rattle.ncc_check.proofs.notes.names.note_names_by_table.Given as goal

abbrev pub invariant-loop-i : goal.invariant-loop-i
invariant-loop-i g l = record {
  seen : Seen l.slots.items (map g.T.Item.text l.items) l.i l.seen.keys;
  order : l.item.number ≤ l.i;
  offset : IsItemOffset (g.T.Item.canon l.version) l.start l.items l.item;
  found : Adds (FirstNameNotes (map g.T.Item.text l.items) (offsets_from (g.T.Item.canon l.version) l.start l.items) l.i) l.fn.notes.items l.notes.items;
}
