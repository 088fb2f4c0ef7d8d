use Rattle.std.proofs.Common.{◌≡◌, drop}
use Rattle.std.specs.List.{AllByRecursion, flat_map}
use Rattle.ncc_schema.specs.Schema.{LegalDim}
use Rattle.ncc_schema.specs.Header.{canon_list, canon_dim}
use Rattle.ncc_schema.proofs.Writing.{SoFar}
use Rattle.ncc_schema.proofs.rules.dim.put_dims.Given as goal

abbrev pub invariant-loop-dim : goal.invariant-loop-dim
invariant-loop-dim g l = record {
  so_far : SoFar (g.W.Sink.put l.fn.sink) (g.W.Sink.put l.sink) (canon_list l.version 10 (canon_dim l.version) l.dims) (flat_map (canon_dim l.version) (drop l.dim-index l.dims));
  count : g.W.Sink.failures l.sink ≡ g.W.Sink.failures l.fn.sink;
  each : AllByRecursion (LegalDim l.version) (drop l.dim-index l.dims);
}
