use Rattle.std.proofs.Common.{◌↔◌, drop}
use Rattle.std.specs.List.{AllByRecursion}
use Rattle.ncc_schema.specs.Schema.{IsFixed}
use Rattle.ncc_schema.proofs.legality.are_fixed.Given as goal

abbrev pub invariant-loop-id : goal.invariant-loop-id
invariant-loop-id l = AllByRecursion (IsFixed l.dims) (drop l.id-index l.ids) ↔ AllByRecursion (IsFixed l.dims) l.ids
