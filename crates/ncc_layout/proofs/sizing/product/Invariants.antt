use Rattle.std.proofs.Common.{◌≡◌, ◌*◌, ◌<◌, ◌^◌, map, drop}
use Rattle.std.specs.List.{AllByRecursion}
use Rattle.ncc_schema.specs.Schema.{IsFixed}
use Rattle.ncc_layout.specs.Sizes.{length_of, product}
use Rattle.ncc_layout.proofs.sizing.product.Given as goal

abbrev pub invariant-loop-id : goal.invariant-loop-id
invariant-loop-id l = record {
  so_far : product (map (length_of l.dims) (drop l.id-index l.ids)) * l.bytes ≡ product (map (length_of l.dims) l.ids) * l.size;
  fixed : AllByRecursion (IsFixed l.dims) (drop l.id-index l.ids);
  positive : 0 < l.bytes;
  fits : l.bytes < 2 ^ 64;
}
