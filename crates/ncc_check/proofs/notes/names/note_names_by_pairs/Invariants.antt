use Rattle.std.proofs.Common.{◌≡◌, ◌≤◌, length, map}
use Rattle.ncc_check.specs.Noting.{Adds, AreKeys, AreTaken, FirstNameNotes, IsItemOffset, offsets_from}
use Rattle.ncc_check.proofs.notes.names.note_names_by_pairs.Given as goal

abbrev pub invariant-loop-i : goal.invariant-loop-i
invariant-loop-i g l = record {
  few : length l.keys ≡ 32;
  slots : length l.taken ≡ 61;
  keys : AreKeys (map g.T.Item.text l.items) l.i l.keys;
  taken : AreTaken (map g.T.Item.text l.items) l.i l.taken;
  order : l.item.number ≤ l.i;
  offset : IsItemOffset (g.T.Item.canon l.version) l.start l.items l.item;
  found : Adds (FirstNameNotes (map g.T.Item.text l.items) (offsets_from (g.T.Item.canon l.version) l.start l.items) l.i) l.fn.notes.items l.notes.items;
}
