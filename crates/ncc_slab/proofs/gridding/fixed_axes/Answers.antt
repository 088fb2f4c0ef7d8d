use Rattle.std.proofs.Common.{sym, ap, subst, arith}
use Rattle.ncc_layout.specs.Sizes.{product}
use Rattle.ncc_slab.specs.Axes.{ArePositive}
use Rattle.ncc_slab.proofs.InFile.{all_lengths_positive, count_in_file, fixed_last, fixed_base}
use Rattle.ncc_slab.proofs.gridding.fixed_axes.Goals as goal

pub add_axes-requires-clause-lengths : goal.add_axes-requires-clause-lengths
add_axes-requires-clause-lengths c =
    let p = c.args.placed.now in
    subst ArePositive (sym c.shape.ensures)
    (all_lengths_positive p (c.placed_file_keeps_all_rules.ensures p) (c.placed_file_keeps_elements_apart.ensures p) c.args.var c.args.slab.now c.requires.some)

pub add_axes-requires-clause-elements : goal.add_axes-requires-clause-elements
add_axes-requires-clause-elements c =
    let p = c.args.placed.now in
    let count = count_in_file p (c.placed_file_keeps_all_rules.ensures p) (c.placed_file_keeps_elements_apart.ensures p) c.args.var c.args.slab.now c.requires.some in
    let same = ap product c.as_slice-count.ensures in
    omega (arith, same, count, c.length_fits.ensures)

pub add_axes-requires-clause-last : goal.add_axes-requires-clause-last
add_axes-requires-clause-last c =
    let p = c.args.placed.now in
    let last = fixed_last p (c.placed_file_keeps_all_rules.ensures p) (c.placed_file_keeps_elements_apart.ensures p) c.args.var c.args.slab.now c.requires.some c.requires.kind in
    rw (c.shape.ensures, c.as_slice-start.ensures, c.as_slice-count.ensures, c.as_slice-stride.ensures, c.size-size.ensures, c.xtype.ensures) (omega (arith, last, c.length_fits.ensures))

pub overflow_add-result : goal.overflow_add-result
overflow_add-result c =
    let p = c.args.placed.now in
    let base = fixed_base p (c.placed_file_keeps_all_rules.ensures p) (c.placed_file_keeps_elements_apart.ensures p) c.args.var c.args.slab.now c.requires.some c.requires.kind in
    rw (c.in_ok-offset.ensures.offset, c.shape.ensures, c.as_slice-start.ensures, c.size-size.ensures, c.xtype.ensures, c.begin.ensures) (omega (arith, base, c.length_fits.ensures))
