use Rattle.std.proofs.Common.{◌≡◌, drop}
use Rattle.ncc_build.specs.Building.{refuses_vars, with_vars}
use Rattle.ncc_build.specs.Builds.{schema_so_far}
use Rattle.ncc_build.proofs.rebuilding.add_vars.Given as goal

abbrev pub invariant-loop-var : goal.invariant-loop-var
invariant-loop-var l = record {
  refused : refuses_vars (schema_so_far l.fn.builder) l.vars ≡ refuses_vars (schema_so_far l.builder) (drop l.var-index l.vars);
  added : with_vars (schema_so_far l.fn.builder) l.vars ≡ with_vars (schema_so_far l.builder) (drop l.var-index l.vars);
}
