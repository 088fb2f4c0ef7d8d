use Rattle.std.proofs.Common.{sym, subst, ◌∙◌}
use Rattle.ncc_schema.specs.Schema.{places_of}
use Rattle.ncc_layout.specs.Extents.{NumberedFrom}
use Rattle.ncc_places.proofs.Ordered.{numbered}
use Rattle.ncc_picture.proofs.whole.parts_in.Goals as goal

pub largest-requires : goal.largest-requires
largest-requires c =
    let h = c.args.file.now.header in
    subst (NumberedFrom 0) (sym (c.deref.ensures.value ∙ c.in_ok-extents.ensures)) (numbered h.schema.dims 0 h.schema.vars (places_of h.places))
