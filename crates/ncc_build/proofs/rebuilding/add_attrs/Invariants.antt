use Rattle.std.proofs.Common.{◌≡◌, drop, ◌<◌, length}
use Rattle.ncc_build.specs.Building.{refuses_attrs, with_attrs}
use Rattle.ncc_build.specs.Builds.{schema_so_far}
use Rattle.ncc_build.proofs.rebuilding.add_attrs.Given as goal

abbrev pub invariant-loop-attr : goal.invariant-loop-attr
invariant-loop-attr l = record {
  there : l.var < length (schema_so_far l.builder).vars;
  refused : refuses_attrs (schema_so_far l.fn.builder) l.var l.attrs ≡ refuses_attrs (schema_so_far l.builder) l.var (drop l.attr-index l.attrs);
  added : with_attrs (schema_so_far l.fn.builder) l.var l.attrs ≡ with_attrs (schema_so_far l.builder) l.var (drop l.attr-index l.attrs);
}
