use Rattle.ncc_slab.proofs.Fitting.{fits_from}
use Rattle.ncc_ranges.proofs.Finding.{counts_all, counts_none, none_found, ranged, shape_passes}
use Rattle.ncc_ranges.proofs.steps.steps_of.Goals as goal

pub no_steps-requires-clause-fits : goal.no_steps-requires-clause-fits
no_steps-requires-clause-fits c =
    fits_from c.args.var.now.shape c.args.slab.now (shape_passes c.args.var.now.shape c.as_slice.result.now c.args.slab.now c.as_slice.ensures c.in_default.ensures)

pub no_steps-requires-clause-none : goal.no_steps-requires-clause-none
no_steps-requires-clause-none c =
    counts_none c.args.slab.now.count c.as_slice-2.result.now c.in-Some-first_without_index._k c.as_slice-2.ensures c.in-Some-first_without_index.ensures

pub returns-in-Some-first_without_index : goal.returns-in-Some-first_without_index
returns-in-Some-first_without_index c =
    let x = c.args.var.now in
    let s = c.args.slab.now in
    let passes = shape_passes x.shape c.as_slice.result.now s c.as_slice.ensures c.in_default.ensures in
    let none = counts_none s.count c.as_slice-2.result.now c.in-Some-first_without_index._k c.as_slice-2.ensures c.in-Some-first_without_index.ensures in
    (passes, none_found c.args.record_size c.args.file_length x s passes (fits_from x.shape s passes) c.in_ok-no_steps.field-0 none c.in_ok-no_steps.ensures)

pub some_steps-requires-clause-fits : goal.some_steps-requires-clause-fits
some_steps-requires-clause-fits c =
    fits_from c.args.var.now.shape c.args.slab.now (shape_passes c.args.var.now.shape c.as_slice.result.now c.args.slab.now c.as_slice.ensures c.in_default.ensures)

pub some_steps-requires-clause-some : goal.some_steps-requires-clause-some
some_steps-requires-clause-some c = counts_all c.args.slab.now.count c.as_slice-2.result.now c.as_slice-2.ensures c.in_default-first_without_index.ensures

pub returns : goal.returns
returns c =
    let x = c.args.var.now in
    let s = c.args.slab.now in
    let passes = shape_passes x.shape c.as_slice.result.now s c.as_slice.ensures c.in_default.ensures in
    let some = counts_all s.count c.as_slice-2.result.now c.as_slice-2.ensures c.in_default-first_without_index.ensures in
    ranged c.args.record_size c.args.file_length x s passes (fits_from x.shape s passes) c.some_steps.result some c.some_steps.ensures
