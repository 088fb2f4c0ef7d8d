use Rattle.std.proofs.Common.{◌≡◌, ◌-◌, ap, ◌∙◌, arith}
use Rattle.ncc_slab.specs.Axes.{places_from}
use Rattle.ncc_slab.proofs.parts.SlabParts.new.Goals as goal

pub returns : goal.returns
returns c =
    let grid = c.in_ok-grid.grid in
    let whole : grid.count - 0 ≡ grid.count = omega arith in (
      c.in_ok-grid.ensures.places.0,
      record {
        type_is = c.xtype-xtype.ensures;
        left_is = ap (places_from grid.base grid.axes.items 0) whole ∙ c.in_ok-grid.ensures.places.1;
        length_is = c.file_length.ensures;
      },
    )
