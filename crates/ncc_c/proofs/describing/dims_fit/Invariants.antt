use Rattle.std.proofs.Common.{◌↔◌, drop}
use Rattle.std.specs.List.{AllByRecursion}
use Rattle.ncc_c.specs.Describing.{DimFits}
use Rattle.ncc_c.proofs.describing.dims_fit.Given as goal

abbrev pub invariant-loop-row : goal.invariant-loop-row
invariant-loop-row l = AllByRecursion (DimFits l.text) (drop l.row-index l.rows) ↔ AllByRecursion (DimFits l.text) l.rows
