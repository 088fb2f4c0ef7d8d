use Rattle.std.proofs.Common.{◌↔◌, drop}
use Rattle.std.specs.List.{AllByRecursion}
use Rattle.ncc_c.specs.Describing.{AttrFits}
use Rattle.ncc_c.proofs.describing.attrs_fit.Given as goal

abbrev pub invariant-loop-row : goal.invariant-loop-row
invariant-loop-row l = AllByRecursion (AttrFits l.text) (drop l.row-index l.rows) ↔ AllByRecursion (AttrFits l.text) l.rows
