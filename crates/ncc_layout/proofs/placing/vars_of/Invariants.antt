use Rattle.std.proofs.Common.{◌≡◌, ◌++◌, drop}
use Rattle.ncc_layout.specs.Elements.{placed_on}
use Rattle.ncc_layout.proofs.placing.vars_of.Given as goal

abbrev pub invariant-loop-variable : goal.invariant-loop-variable
invariant-loop-variable l =
    l.placed.items ++ placed_on l.dims l.records (drop l.variable l.vars) (drop l.variable l.extents) ≡ placed_on l.dims l.records l.vars l.extents
