use Rattle.std.proofs.Common.{◌≡◌, ◌++◌, drop}
use Rattle.ncc_schema.specs.Schema.{places_of}
use Rattle.ncc_layout.specs.Extents.{extents_from}
use Rattle.ncc_layout.proofs.placing.extents_of.Given as goal

abbrev pub invariant-loop-variable : goal.invariant-loop-variable
invariant-loop-variable l =
    l.extents.items ++ extents_from l.dims l.variable (drop l.variable l.vars) (drop l.variable (places_of l.places)) ≡ extents_from l.dims 0 l.vars (places_of l.places)
