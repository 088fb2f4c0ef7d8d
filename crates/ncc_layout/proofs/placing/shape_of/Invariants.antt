use Rattle.std.proofs.Common.{◌≡◌, ◌++◌, drop, map}
use Rattle.std.specs.List.{AllByRecursion}
use Rattle.ncc_schema.specs.Schema.{IsFixed}
use Rattle.ncc_layout.specs.Sizes.{length_of}
use Rattle.ncc_layout.specs.Elements.{shape}
use Rattle.ncc_layout.proofs.placing.shape_of.Given as goal

abbrev pub invariant-loop-id : goal.invariant-loop-id
invariant-loop-id l = record {
  so_far : l.lengths.items ++ map (length_of l.dims) (drop l.id-index l.id-items) ≡ shape l.dims l.records l.var;
  fixed : AllByRecursion (IsFixed l.dims) (drop l.id-index l.id-items);
}
