use Rattle.std.proofs.Common.{◌≡◌, drop}
use Rattle.std.specs.List.{AllByRecursion, flat_map}
use Rattle.ncc_schema.specs.Schema.{LegalAttr}
use Rattle.ncc_schema.specs.Header.{canon_list, canon_attr}
use Rattle.ncc_schema.proofs.Writing.{SoFar}
use Rattle.ncc_schema.proofs.rules.attr.put_attrs.Given as goal

abbrev pub invariant-loop-attr : goal.invariant-loop-attr
invariant-loop-attr g l = record {
  so_far : SoFar (g.W.Sink.put l.fn.sink) (g.W.Sink.put l.sink) (canon_list l.version 12 (canon_attr l.version) l.attrs) (flat_map (canon_attr l.version) (drop l.attr-index l.attrs));
  count : g.W.Sink.failures l.sink ≡ g.W.Sink.failures l.fn.sink;
  each : AllByRecursion (LegalAttr l.version) (drop l.attr-index l.attrs);
}
