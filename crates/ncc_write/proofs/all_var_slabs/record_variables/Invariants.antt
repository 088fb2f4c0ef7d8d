use Rattle.std.proofs.Common.{◌≡◌, ◌≤◌, ◌+◌, length, drop}
use Rattle.std.specs.List.{AllByRecursion}
use Rattle.ncc_schema.specs.Schema.{LegalVar}
use Rattle.ncc_layout.specs.Sizes.{record_vars}
use Rattle.ncc_write.proofs.all_var_slabs.record_variables.Given as goal

abbrev pub invariant-loop-var : goal.invariant-loop-var
invariant-loop-var l = record {
  count : l.count + length (record_vars l.schema.dims (drop l.var-index l.schema.vars)) ≡ length (record_vars l.schema.dims l.schema.vars);
  below : l.count ≤ l.var-index;
  legal : AllByRecursion (LegalVar l.schema.version l.schema.dims) (drop l.var-index l.schema.vars);
}
