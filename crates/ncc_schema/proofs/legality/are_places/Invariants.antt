use Rattle.std.proofs.Common.{◌↔◌, drop}
use Rattle.std.specs.List.{AllByRecursion}
use Rattle.ncc_schema.specs.Schema.{LegalPlace, places_of}
use Rattle.ncc_schema.proofs.legality.are_places.Given as goal

abbrev pub invariant-loop-place : goal.invariant-loop-place
invariant-loop-place l = AllByRecursion (LegalPlace l.version) (places_of (drop l.place-index l.places)) ↔ AllByRecursion (LegalPlace l.version) (places_of l.places)
