use Rattle.std.proofs.Common.{◌↔◌, drop}
use Rattle.std.specs.List.{AllByRecursion}
use Rattle.ncc_schema.specs.Schema.{LegalDim}
use Rattle.ncc_schema.proofs.legality.are_dims.Given as goal

abbrev pub invariant-loop-dim : goal.invariant-loop-dim
invariant-loop-dim l = AllByRecursion (LegalDim l.version) (drop l.dim-index l.dims) ↔ AllByRecursion (LegalDim l.version) l.dims
