use Rattle.std.proofs.Common.{◌≡◌, ◌<◌, drop}
use Rattle.std.specs.List.{AllByRecursion, flat_map}
use Rattle.ncc_values.specs.Numbers.{big_endian}
use Rattle.ncc_values.specs.Version.{count_width_of}
use Rattle.ncc_schema.specs.Schema.{count_limit}
use Rattle.ncc_schema.specs.Header.{canon_dimids}
use Rattle.ncc_schema.proofs.Writing.{SoFar}
use Rattle.ncc_schema.proofs.rules.var.put_dimids.Given as goal

abbrev pub invariant-loop-id : goal.invariant-loop-id
invariant-loop-id g l = record {
  so_far : SoFar (g.W.Sink.put l.fn.sink) (g.W.Sink.put l.sink) (canon_dimids l.version l.ids) (flat_map (big_endian (count_width_of l.version)) (drop l.id-index l.ids));
  count : g.W.Sink.failures l.sink ≡ g.W.Sink.failures l.fn.sink;
  each : AllByRecursion (λ n. n < count_limit l.version) (drop l.id-index l.ids);
}
