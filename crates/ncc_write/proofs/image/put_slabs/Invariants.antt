use Rattle.std.proofs.Common.{◌≡◌, ◌≤◌, ◌+◌, ◌++◌, length, drop, take}
use Rattle.std.specs.Prelude.{sum_by}
use Rattle.std.specs.List.{AllByRecursion}
use Rattle.ncc_schema.specs.Schema.{LegalVar}
use Rattle.ncc_layout.specs.Sizes.{record_vars}
use Rattle.ncc_build.specs.Dataset.{AreSlabsOf}
use Rattle.ncc_write.specs.Records.{bytes_of_record, in_turn, whole_size}
use Rattle.ncc_write.proofs.image.put_slabs.Given as goal

abbrev pub invariant-loop-number : goal.invariant-loop-number
invariant-loop-number l = record {
  bytes : take l.end l.image ++ in_turn l.schema (record_vars l.schema.dims (drop l.number l.schema.vars)) (drop l.done l.slabs)
      ≡ bytes_of_record l.schema l.slabs;
  room : l.end + sum_by (whole_size l.schema) (record_vars l.schema.dims (drop l.number l.schema.vars)) ≡ length l.image;
  fits : AreSlabsOf l.schema.dims (record_vars l.schema.dims (drop l.number l.schema.vars)) (drop l.done l.slabs);
  below : l.done ≤ l.number;
  legal : AllByRecursion (LegalVar l.schema.version l.schema.dims) (drop l.number l.schema.vars);
}
