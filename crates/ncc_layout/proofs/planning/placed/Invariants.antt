use Rattle.std.proofs.Common.{◌≡◌, map, take}
use Rattle.ncc_schema.specs.Schema.{places_of}
use Rattle.ncc_layout.specs.Standard.{standard_from, begin_fields_from}
use Rattle.ncc_layout.specs.Plans.{AreEnds}
use Rattle.ncc_layout.proofs.planning.placed.Given as goal

abbrev pub invariant-loop-number : goal.invariant-loop-number
invariant-loop-number l = record {
  places : places_of l.places.items ≡ standard_from l.schema 0 (take l.number l.vars);
  fields : map (λ p. p.begin_at) l.places.items ≡ begin_fields_from l.schema 0 (take l.number l.vars);
  ends : AreEnds l.schema (take l.number l.vars) l.ends;
}
