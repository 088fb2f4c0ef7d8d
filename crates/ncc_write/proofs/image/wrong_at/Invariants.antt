use Rattle.std.proofs.Common.{◌≡◌, ◌≤◌, length, drop}
use Rattle.std.specs.List.{AllByRecursion}
use Rattle.ncc_schema.specs.Schema.{LegalVar}
use Rattle.ncc_layout.specs.Sizes.{record_vars}
use Rattle.ncc_write.specs.Records.{wrong_from, wrong_at}
use Rattle.ncc_write.proofs.image.wrong_at.Given as goal

abbrev pub invariant-loop-number : goal.invariant-loop-number
invariant-loop-number l = record {
  rest : wrong_from l.schema.dims l.done (record_vars l.schema.dims (drop l.number l.schema.vars)) (drop l.done l.slabs)
      ≡ wrong_at l.schema l.slabs;
  few : l.done ≤ length l.slabs;
  legal : AllByRecursion (LegalVar l.schema.version l.schema.dims) (drop l.number l.schema.vars);
}
