use Rattle.std.proofs.Common.{◌∙◌, ℕ, List, sym, ap, subst, arith}
use Rattle.ncc_slab.specs.declared.axis.Axis.{Axis}
use Rattle.ncc_slab.specs.Axes.{ArePositive, AreWide, axes_of, places_from}
use Rattle.ncc_slab.proofs.OneAxis.{axes_wide}
use Rattle.ncc_ranges.proofs.AxesBySteps.{all_positive, axes_for, places_are, places_fit}
use Rattle.ncc_ranges.proofs.Finding.{none_by}
use Rattle.ncc_ranges.proofs.runs.grid_by.Goals as goal

pub returns-then-found-eq0 : goal.returns-then-found-eq0
returns-then-found-eq0 c =
    c.new-then-found-eq0.ensures
    ∙ sym (none_by c.args.found.now.base c.args.found.now.steps.items c.args.slab.now.count (sym c.requires.total ∙ c.if-found-eq0.true))

pub axes_by-requires-clause-counts : goal.axes_by-requires-clause-counts
axes_by-requires-clause-counts c =
    subst ArePositive (sym c.as_slice-count.ensures) (all_positive c.args.slab.now.count (λ is. c.if-found-eq0.false (c.requires.total ∙ is)))

pub new-requires-2-clause-fits : goal.new-requires-2-clause-fits
new-requires-2-clause-fits c =
    let found = c.args.found.now in
    let count = c.args.slab.now.count in
    let axes = axes_for count c.as_slice-count.result.now found.steps.items c.as_slice.result.now c.in_ok-axes.axes.items c.as_slice-count.ensures c.as_slice.ensures.value c.in_ok-axes.ensures in
    let fit = places_fit found.base count found.steps.items c.requires.ranks c.requires.fits in
    rw axes (λ n lt. fit n (omega (arith, lt, c.requires.total)))

pub new-requires-2-clause-wide : goal.new-requires-2-clause-wide
new-requires-2-clause-wide c =
    let found = c.args.found.now in
    let count = c.args.slab.now.count in
    let axes = axes_for count c.as_slice-count.result.now found.steps.items c.as_slice.result.now c.in_ok-axes.axes.items c.as_slice-count.ensures c.as_slice.ensures.value c.in_ok-axes.ensures in
    let positive = all_positive count (λ is. c.if-found-eq0.false (c.requires.total ∙ is)) in
    subst AreWide (sym axes) (axes_wide count found.steps.items positive)

pub returns : goal.returns
returns c =
    let found = c.args.found.now in
    let count = c.args.slab.now.count in
    let axes = axes_for count c.as_slice-count.result.now found.steps.items c.as_slice.result.now c.in_ok-axes.axes.items c.as_slice-count.ensures c.as_slice.ensures.value c.in_ok-axes.ensures in
    c.new-2.ensures
    ∙ ap (λ (l : List Axis). places_from found.base l 0 found.total) axes
    ∙ ap (λ (n : ℕ). places_from found.base (axes_of count found.steps.items) 0 n) c.requires.total
    ∙ places_are found.base count found.steps.items c.requires.ranks
