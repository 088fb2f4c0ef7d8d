use Rattle.std.proofs.Common.{◌↔◌, drop}
use Rattle.std.specs.List.{AllByRecursion}
use Rattle.ncc_schema.specs.Schema.{LegalVar}
use Rattle.ncc_schema.proofs.legality.are_vars.Given as goal

abbrev pub invariant-loop-var : goal.invariant-loop-var
invariant-loop-var l = AllByRecursion (LegalVar l.version l.dims) (drop l.var-index l.vars) ↔ AllByRecursion (LegalVar l.version l.dims) l.vars
