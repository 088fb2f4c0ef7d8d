use Rattle.std.proofs.Common.{◌<◌, ◌↔◌, drop}
use Rattle.std.specs.List.{AllByRecursion}
use Rattle.ncc_schema.specs.Schema.{offset_limit, places_of}
use Rattle.ncc_layout.proofs.planning.fitting.offsets_fit.Given as goal

abbrev pub invariant-loop-place : goal.invariant-loop-place
invariant-loop-place l = AllByRecursion (λ p. p.begin < offset_limit l.fn.version) (places_of (drop l.place-index l.places)) ↔ AllByRecursion (λ p. p.begin < offset_limit l.fn.version) (places_of l.places)
