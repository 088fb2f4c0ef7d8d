use Rattle.std.proofs.Common.{◌≡◌, drop}
use Rattle.ncc_build.specs.Building.{refuses_globals, with_globals}
use Rattle.ncc_build.specs.Builds.{schema_so_far}
use Rattle.ncc_build.proofs.rebuilding.add_globals.Given as goal

abbrev pub invariant-loop-attr : goal.invariant-loop-attr
invariant-loop-attr l = record {
  refused : refuses_globals (schema_so_far l.fn.builder) l.attrs ≡ refuses_globals (schema_so_far l.builder) (drop l.attr-index l.attrs);
  added : with_globals (schema_so_far l.fn.builder) l.attrs ≡ with_globals (schema_so_far l.builder) (drop l.attr-index l.attrs);
}
