use Rattle.std.proofs.Common.{◌≡◌, drop}
use Rattle.std.specs.List.{flat_map}
use Rattle.std.specs.Prelude.{zip}
use Rattle.ncc_schema.specs.Schema.{places_of}
use Rattle.ncc_schema.specs.Header.{canon_list, canon_var}
use Rattle.ncc_schema.proofs.Writing.{SoFar}
use Rattle.ncc_schema.proofs.rules.var.put_vars.Given as goal

abbrev pub invariant-loop-i : goal.invariant-loop-i
invariant-loop-i g l =
    let v = l.schema.version in
    let placed = zip l.schema.vars (places_of l.places) in
    record {
      so_far : SoFar (g.W.Sink.put l.fn.sink) (g.W.Sink.put l.sink) (canon_list v 11 (canon_var v) placed) (flat_map (canon_var v) (drop l.i placed));
      count : g.W.Sink.failures l.sink ≡ g.W.Sink.failures l.fn.sink;
    }
