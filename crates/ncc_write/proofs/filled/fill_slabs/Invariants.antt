use Rattle.std.proofs.Common.{◌≡◌, ◌++◌, map, drop}
use Rattle.std.specs.List.{AllByRecursion}
use Rattle.ncc_schema.specs.Schema.{LegalVar}
use Rattle.ncc_layout.specs.Sizes.{record_vars}
use Rattle.ncc_write.specs.Records.{fill_slab, fill_values}
use Rattle.ncc_write.proofs.filled.fill_slabs.Given as goal

abbrev pub invariant-loop-number : goal.invariant-loop-number
invariant-loop-number l = record {
  rest : l.slabs.items ++ map (fill_slab l.schema.dims) (record_vars l.schema.dims (drop l.number l.schema.vars)) ≡ fill_values l.schema;
  legal : AllByRecursion (LegalVar l.schema.version l.schema.dims) (drop l.number l.schema.vars);
}
