use Rattle.std.proofs.Common.{length}
use Rattle.std.specs.List.{range_with_len}
use Rattle.ncc_schema.specs.Schema.{places_of}
use Rattle.ncc_check.specs.Notes.{extents_in}
use Rattle.ncc_places.proofs.Ordered.{numbered, numbers_permuted, ordered, permuted, variables_of}
use Rattle.ncc_places.proofs.laws.variables_are_in_order.Goals as goal

pub returns-clause-all : goal.returns-clause-all
returns-clause-all c = λ h. permuted (extents_in h)

pub returns-clause-order : goal.returns-clause-order
returns-clause-order c = λ h. ordered (extents_in h) (numbered h.schema.dims 0 h.schema.vars (places_of h.places))

pub returns-clause-each : goal.returns-clause-each
returns-clause-each c = λ h long.
    numbers_permuted (extents_in h) (range_with_len 0 (length h.schema.vars))
    (variables_of h.schema.dims 0 h.schema.vars (places_of h.places) long)
