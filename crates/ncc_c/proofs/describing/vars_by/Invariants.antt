use Rattle.std.proofs.Common.{◌≡◌, ◌++◌, drop, length}
use Rattle.std.specs.List.{AllByRecursion}
use Rattle.ncc_c.specs.Describing.{AttrFits, attrs_by, ids_by, vars_by}
use Rattle.ncc_c.proofs.describing.vars_by.Given as goal

abbrev pub invariant-loop-k : goal.invariant-loop-k
invariant-loop-k l = record {
  goes : l.items.items ++ vars_by l.text l.attrs_left l.ids_left (drop l.k l.rows) ≡ vars_by l.text l.attrs l.ids l.rows;
  fit : AllByRecursion (AttrFits l.text) l.attrs_left;
  all : attrs_by (drop l.k l.rows) ≡ length l.attrs_left;
  all_ids : ids_by (drop l.k l.rows) ≡ length l.ids_left;
}
