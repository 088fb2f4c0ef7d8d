use Rattle.std.proofs.Common.{sym, subst, ◌∙◌}
use Rattle.ncc_layout.specs.Extents.{NumberedFrom}
use Rattle.ncc_picture.proofs.Turning.{turned_numbered}
use Rattle.ncc_picture.proofs.choosing.largest.Goals as goal

pub order-requires-clause-numbered : goal.order-requires-clause-numbered
order-requires-clause-numbered c =
    subst (NumberedFrom 0) (sym (c.deref_mut.ensures.value ∙ c.in_ok-large.ensures)) (turned_numbered 0 c.args.extents.now c.requires)
