use Rattle.std.proofs.Common.{get_or, drop, ap, sym, subst, ◌∙◌, arith}
use Rattle.ncc_layout.specs.Sizes.{product}
use Rattle.ncc_slab.specs.Axes.{ArePositive}
use Rattle.ncc_slab.proofs.InFile.{of_records}
use Rattle.ncc_slab.proofs.gridding.record_axes.Goals as goal

pub overflow_mul-stride : goal.overflow_mul-stride
overflow_mul-stride c =
    let of = of_records c.args.placed.now (c.placed_file_keeps_all_rules.ensures c.args.placed.now) (c.placed_file_keeps_elements_apart.ensures c.args.placed.now) c.args.var c.args.slab.now c.requires.some c.requires.kind in
    let count = ap (λ (l : _). get_or l 0 0) c.as_slice-count.ensures in
    rw (c.as_slice-stride.ensures, c.record_size-record_size.ensures) (omega (arith, of.step (λ is. c.if-count-ne1.true (count ∙ is)), c.length_fits.ensures))

pub product-requires-clause-fits : goal.product-requires-clause-fits
product-requires-clause-fits c =
    let of = of_records c.args.placed.now (c.placed_file_keeps_all_rules.ensures c.args.placed.now) (c.placed_file_keeps_elements_apart.ensures c.args.placed.now) c.args.var c.args.slab.now c.requires.some c.requires.kind in
    let same = ap product (c.split_at-3.ensures.back ∙ ap (drop 1) c.as_slice-count.ensures) in
    omega (arith, same, of.elements, c.length_fits.ensures)

pub add_axes-requires-clause-lengths : goal.add_axes-requires-clause-lengths
add_axes-requires-clause-lengths c =
    let of = of_records c.args.placed.now (c.placed_file_keeps_all_rules.ensures c.args.placed.now) (c.placed_file_keeps_elements_apart.ensures c.args.placed.now) c.args.var c.args.slab.now c.requires.some c.requires.kind in
    subst ArePositive (sym (c.split_at.ensures.back ∙ ap (drop 1) c.shape.ensures)) of.lengths

pub add_axes-requires-clause-elements : goal.add_axes-requires-clause-elements
add_axes-requires-clause-elements c =
    let of = of_records c.args.placed.now (c.placed_file_keeps_all_rules.ensures c.args.placed.now) (c.placed_file_keeps_elements_apart.ensures c.args.placed.now) c.args.var c.args.slab.now c.requires.some c.requires.kind in
    let same = ap product (c.split_at-3.ensures.back ∙ ap (drop 1) c.as_slice-count.ensures) in
    omega (arith, same, of.elements, c.length_fits.ensures)

pub add_axes-requires-clause-last : goal.add_axes-requires-clause-last
add_axes-requires-clause-last c =
    let of = of_records c.args.placed.now (c.placed_file_keeps_all_rules.ensures c.args.placed.now) (c.placed_file_keeps_elements_apart.ensures c.args.placed.now) c.args.var c.args.slab.now c.requires.some c.requires.kind in
    rw (c.split_at.ensures.back, c.split_at-2.ensures.back, c.split_at-3.ensures.back, c.split_at-4.ensures.back, c.shape.ensures, c.as_slice-start.ensures, c.as_slice-count.ensures, c.as_slice-stride.ensures, c.size-size.ensures, c.xtype.ensures)
    (omega (arith, of.last, c.length_fits.ensures))

pub overflow_mul-result : goal.overflow_mul-result
overflow_mul-result c =
    let of = of_records c.args.placed.now (c.placed_file_keeps_all_rules.ensures c.args.placed.now) (c.placed_file_keeps_elements_apart.ensures c.args.placed.now) c.args.var c.args.slab.now c.requires.some c.requires.kind in
    rw (c.as_slice-start.ensures, c.record_size-record_size.ensures) (omega (arith, of.first, c.length_fits.ensures))

pub overflow_add-result : goal.overflow_add-result
overflow_add-result c =
    let of = of_records c.args.placed.now (c.placed_file_keeps_all_rules.ensures c.args.placed.now) (c.placed_file_keeps_elements_apart.ensures c.args.placed.now) c.args.var c.args.slab.now c.requires.some c.requires.kind in
    rw (c.as_slice-start.ensures, c.record_size-record_size.ensures, c.begin.ensures) (omega (arith, of.first, c.length_fits.ensures))

pub overflow_add-result-2 : goal.overflow_add-result-2
overflow_add-result-2 c =
    let of = of_records c.args.placed.now (c.placed_file_keeps_all_rules.ensures c.args.placed.now) (c.placed_file_keeps_elements_apart.ensures c.args.placed.now) c.args.var c.args.slab.now c.requires.some c.requires.kind in
    rw (c.in_ok-offset.ensures.offset, c.split_at.ensures.back, c.split_at-2.ensures.back, c.shape.ensures, c.as_slice-start.ensures, c.size-size.ensures, c.xtype.ensures, c.record_size-record_size.ensures, c.begin.ensures)
    (omega (arith, of.first, c.length_fits.ensures))
