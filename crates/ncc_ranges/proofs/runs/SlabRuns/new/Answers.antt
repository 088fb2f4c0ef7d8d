use Rattle.std.proofs.Common.{◌∙◌, ℕ, drop, min, sym, ap, arith}
use Rattle.ncc_values.specs.XType.{size_of}
use Rattle.ncc_slab.specs.Axes.{place_at}
use Rattle.ncc_slab.proofs.Lists.{count_is_product}
use Rattle.ncc_ranges.proofs.RunPlaces.{behind_first}
use Rattle.ncc_ranges.proofs.Finding.{all_end_by, places_below}
use Rattle.ncc_ranges.proofs.runs.SlabRuns.new.Goals as goal

pub grid_by-requires-clause-total : goal.grid_by-requires-clause-total
grid_by-requires-clause-total c = c.in_ok-found.ensures.1.total ∙ count_is_product c.args.slab.now

pub grid_by-requires-clause-fits : goal.grid_by-requires-clause-fits
grid_by-requires-clause-fits c =
    places_below c.args.record_size c.args.file_length c.args.var.now c.args.slab.now c.in_ok-found.found c.in_ok-found.ensures.1 c.ranges.file_length.fits

pub invariant_of-result : goal.invariant_of-result
invariant_of-result c =
    let grid = c.in_ok-grid.grid in
    let found = c.in_ok-found.ensures.1 in
    let all = c.in_ok-grid.ensures ∙ sym found.steps.places in
    record {
      within = omega (arith, c.min-next.ensures, c.count.ensures);
      ends = all_end_by c.args.file_length (size_of c.args.var.now.xtype) c.size-size.result grid.base grid.axes.items grid.count c.size-size.ensures _ all found.ends;
      dense_is = c.dense_from-dense.ensures;
      ahead_is = λ lt. c.elements_ahead-ahead.ensures.run lt;
      ahead_within = λ lt. c.elements_ahead-ahead.ensures.within lt;
    }

pub returns : goal.returns
returns c =
    let grid = c.in_ok-grid.grid in
    let found = c.in_ok-found.ensures.1 in
    let all = c.in_ok-grid.ensures ∙ sym found.steps.places in (
      c.in_ok-found.ensures.0,
      record {
        left = behind_first (place_at grid.base grid.axes.items) c.args.first grid.count c.min-next.result (c.min-next.ensures ∙ ap (λ (n : ℕ). min c.args.first n) c.count.ensures)
            ∙ ap (drop c.args.first) all;
        size = c.size-size.ensures;
        all = all;
        ends = found.ends;
        fits = λ positive. (found.some positive).fits;
      },
    )
