use Rattle.std.proofs.Common.{◌<◌, ◌^◌, drop, map}
use Rattle.std.specs.Prelude.{◌↔◌}
use Rattle.ncc_layout.specs.Extents.{records_of}
use Rattle.ncc_layout.specs.Standard.{PackedFrom}
use Rattle.ncc_layout.proofs.packing.are_packed.Given as goal

abbrev pub invariant-loop-var : goal.invariant-loop-var
invariant-loop-var l = record {
  same : PackedFrom l.at (records_of (map (λ x. x.extent) (drop l.var-index l.vars))) ↔ PackedFrom l.begin (records_of (map (λ x. x.extent) l.vars));
  small : l.at < 2 ^ 67;
}
