use Rattle.std.proofs.Common.{◌++◌, ℕ, sym, ap, subst, ◌∙◌, arith}
use Rattle.ncc_layout.specs.Sizes.{product}
use Rattle.ncc_layout.specs.Elements.{var_at}
use Rattle.ncc_layout.specs.Placed.{record_size_of_file, vars_of}
use Rattle.ncc_slab.specs.Axes.{ArePositive, places_from, selection_axes}
use Rattle.ncc_slab.proofs.Offsets.{no_places}
use Rattle.ncc_slab.proofs.InFile.{count_in_file}
use Rattle.ncc_slab.proofs.Gridded.{selects_some, all_places, all_wide, places_end}
use Rattle.ncc_slab.proofs.gridding.grid_in.Goals as goal

pub returns-then-not-are_positive : goal.returns-then-not-are_positive
returns-then-not-are_positive c =
    let p = c.args.placed.now in
    c.new.ensures ∙ no_places (record_size_of_file p) (var_at (vars_of p) c.args.var) c.args.slab.now (sym (ap product c.as_slice-count.ensures) ∙ c.if-not-are_positive.ensures)

pub selected_axes-requires : goal.selected_axes-requires
selected_axes-requires c =
    selects_some c.args.placed.now c.args.var c.args.slab.now c.requires (subst ArePositive c.as_slice-count.ensures c.if-not-are_positive.ensures)

pub product-requires-clause-fits : goal.product-requires-clause-fits
product-requires-clause-fits c =
    let p = c.args.placed.now in
    let some = selects_some p c.args.var c.args.slab.now c.requires (subst ArePositive c.as_slice-count.ensures c.if-not-are_positive.ensures) in
    let count = count_in_file p (c.placed_file_keeps_all_rules.ensures p) (c.placed_file_keeps_elements_apart.ensures p) c.args.var c.args.slab.now some in
    omega (arith, ap product c.as_slice-count.ensures, count, c.length_fits.ensures)

pub new-requires-2-clause-fits : goal.new-requires-2-clause-fits
new-requires-2-clause-fits c = λ k lt.
    let p = c.args.placed.now in
    let some = selects_some p c.args.var c.args.slab.now c.requires (subst ArePositive c.as_slice-count.ensures c.if-not-are_positive.ensures) in
    let axes = c.in_ok-base.ensures.axes ∙ ap (λ (l : _). l ++ selection_axes (record_size_of_file p) (var_at (vars_of p) c.args.var) c.args.slab.now) c.new-axes.ensures.items in
    let count = c.product.ensures ∙ ap product c.as_slice-count.ensures in
    let ends = places_end p c.args.var c.args.slab.now some c.in_ok-base.base c.selected_axes.new.axes.items c.in_ok-base.ensures.base axes
    (c.placed_file_keeps_elements_apart.ensures p) c.requires k (omega (arith, count, lt)) in
    omega (arith, ends, c.length_fits.ensures)

pub new-requires-2-clause-wide : goal.new-requires-2-clause-wide
new-requires-2-clause-wide c =
    let p = c.args.placed.now in
    let some = selects_some p c.args.var c.args.slab.now c.requires (subst ArePositive c.as_slice-count.ensures c.if-not-are_positive.ensures) in
    let axes = c.in_ok-base.ensures.axes ∙ ap (λ (l : _). l ++ selection_axes (record_size_of_file p) (var_at (vars_of p) c.args.var) c.args.slab.now) c.new-axes.ensures.items in
    all_wide p c.args.var c.args.slab.now some c.in_ok-base.base c.selected_axes.new.axes.items c.in_ok-base.ensures.base axes

pub returns : goal.returns
returns c =
    let p = c.args.placed.now in
    let some = selects_some p c.args.var c.args.slab.now c.requires (subst ArePositive c.as_slice-count.ensures c.if-not-are_positive.ensures) in
    let axes = c.in_ok-base.ensures.axes ∙ ap (λ (l : _). l ++ selection_axes (record_size_of_file p) (var_at (vars_of p) c.args.var) c.args.slab.now) c.new-axes.ensures.items in
    c.new-2.ensures
    ∙ ap (λ (m : ℕ). places_from c.in_ok-base.base c.selected_axes.new.axes.items 0 m) (c.product.ensures ∙ ap product c.as_slice-count.ensures)
    ∙ all_places p c.args.var c.args.slab.now some c.in_ok-base.base c.selected_axes.new.axes.items c.in_ok-base.ensures.base axes
