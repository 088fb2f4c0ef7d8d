use Rattle.std.proofs.Common.{◌↔◌, drop}
use Rattle.std.specs.List.{AllByRecursion}
use Rattle.ncc_c.specs.Describing.{VarFits}
use Rattle.ncc_c.proofs.describing.vars_fit.Given as goal

abbrev pub invariant-loop-row : goal.invariant-loop-row
invariant-loop-row l = AllByRecursion (VarFits l.text) (drop l.row-index l.rows) ↔ AllByRecursion (VarFits l.text) l.rows
