use Rattle.std.proofs.Common.{◌≡◌, drop}
use Rattle.ncc_build.specs.Building.{refuses_dims, with_dims}
use Rattle.ncc_build.specs.Builds.{schema_so_far}
use Rattle.ncc_build.proofs.rebuilding.add_dims.Given as goal

abbrev pub invariant-loop-dim : goal.invariant-loop-dim
invariant-loop-dim l = record {
  refused : refuses_dims (schema_so_far l.fn.builder) l.dims ≡ refuses_dims (schema_so_far l.builder) (drop l.dim-index l.dims);
  added : with_dims (schema_so_far l.fn.builder) l.dims ≡ with_dims (schema_so_far l.builder) (drop l.dim-index l.dims);
}
