use Rattle.std.proofs.Common.{sym, subst, ◌∙◌}
use Rattle.ncc_schema.specs.Schema.{places_of}
use Rattle.ncc_layout.specs.Extents.{NumberedFrom}
use Rattle.ncc_places.proofs.Ordered.{numbered}
use Rattle.ncc_places.proofs.telling.lay.Goals as goal

pub order-requires-clause-numbered : goal.order-requires-clause-numbered
order-requires-clause-numbered c =
    let h = c.args.file.now.header in
    subst (NumberedFrom 0) (sym (c.deref_mut.ensures.value ∙ c.in_ok-extents.ensures)) (numbered h.schema.dims 0 h.schema.vars (places_of h.places))
