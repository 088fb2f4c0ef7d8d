use Rattle.std.proofs.Common.{true, refl, ◌∙◌}
use Rattle.std.proofs.lemmas.Result.{err_from_is_err_and}
use Rattle.ncc_values.specs.declared.values.Values.{Values}
use Rattle.ncc_check.specs.Files.{store_of, placed_of}
use Rattle.ncc_check.proofs.ReadFiles.{files_answered, files_bounded}
use Rattle.ncc_layout.specs.Placed.{vars_of}
use Rattle.ncc_slab.proofs.Answering.{failed_part, failed_count, typed, all_end, not_refused, selected, numbers, all_counted, all_calls}
use Rattle.ncc_slab.proofs.reading.read_slab.Goals as goal

pub add_all-requires-clause-ends : goal.add_all-requires-clause-ends
add_all-requires-clause-ends g c =
    all_end (placed_of c.args.file.now) c.placed.result.now c.placed-2.result.now c.args.var c.args.slab.now c.in_ok-grid.grid c.xtype.result c.new-values.result
    c.placed.ensures c.placed-2.ensures c.xtype.ensures c.new-values.ensures c.in_ok-grid.ensures.ends

pub returns-in_err-add_all-clause-answers : goal.returns-in_err-add_all-clause-answers
returns-in_err-add_all-clause-answers g c =
    let p = err_from_is_err_and c.from_residual-in_err-add_all.result c.from_residual-in_err-add_all.ensures.1 in
    rw (p.1, p.2) (failed_part (Unit {0}) Values (vars_of (placed_of c.args.file.now)) c.args.var c.args.slab.now _ _ c.in_err-add_all.field-0.0
    (not_refused (placed_of c.args.file.now) c.placed.result.now c.placed-2.result.now c.args.var c.args.slab.now c.in_ok-grid.grid c.xtype.result c.new-values.result
    c.placed.ensures c.placed-2.ensures c.xtype.ensures c.new-values.ensures c.in_ok-grid.ensures.places.0) c.in_err-add_all.ensures.file.reads.counted)

pub returns-clause-values : goal.returns-clause-values
returns-clause-values g c = λ told.
    selected (placed_of c.args.file.now) c.placed.result.now c.placed-2.result.now c.args.var c.args.slab.now c.in_ok-grid.grid c.xtype.result c.new-values.result
    c.placed.ensures c.placed-2.ensures c.xtype.ensures c.new-values.ensures (g.S.Store.bytes (store_of c.args.file.now)) c.add_all.new.values c.in_ok-grid.ensures.places.1 (c.in_ok-add_all.ensures.told told)

pub returns-clause-numbers : goal.returns-clause-numbers
returns-clause-numbers g c = λ told.
    numbers (placed_of c.args.file.now) c.placed.result.now c.placed-2.result.now c.args.var c.args.slab.now c.in_ok-grid.grid c.xtype.result c.new-values.result
    c.placed.ensures c.placed-2.ensures c.xtype.ensures c.new-values.ensures (g.S.Store.bytes (store_of c.args.file.now)) c.add_all.new.values c.in_ok-grid.ensures.places.1 (c.in_ok-add_all.ensures.told told)

pub returns-clause-typed : goal.returns-clause-typed
returns-clause-typed g c =
    c.in_ok-add_all.ensures.typed
    ∙ typed (placed_of c.args.file.now) c.placed.result.now c.placed-2.result.now c.args.var c.args.slab.now c.in_ok-grid.grid c.xtype.result c.new-values.result
    c.placed.ensures c.placed-2.ensures c.xtype.ensures c.new-values.ensures

pub returns-clause-counted : goal.returns-clause-counted
returns-clause-counted g c =
    all_counted (placed_of c.args.file.now) c.placed.result.now c.placed-2.result.now c.args.var c.args.slab.now c.in_ok-grid.grid c.xtype.result c.new-values.result
    c.placed.ensures c.placed-2.ensures c.xtype.ensures c.new-values.ensures _ c.in_ok-grid.ensures.places.1 c.in_ok-add_all.ensures.counted

pub returns-in_err-add_all-clause-file : goal.returns-in_err-add_all-clause-file
returns-in_err-add_all-clause-file g c =
    let added = c.in_err-add_all.ensures.file in
    let p = err_from_is_err_and c.from_residual-in_err-add_all.result c.from_residual-in_err-add_all.ensures.1 in
    rw (p.1, p.2) (files_answered c.args.file.now c.add_all.new.file _ _ true _ _
    (files_bounded c.args.file.now c.add_all.new.file _ true _ _ _ added
    (all_calls (placed_of c.args.file.now) c.placed.result.now c.placed-2.result.now c.args.var c.args.slab.now c.in_ok-grid.grid c.xtype.result c.new-values.result
    c.placed.ensures c.placed-2.ensures c.xtype.ensures c.new-values.ensures _ _ c.in_ok-grid.ensures.places.1 (added.reads.calls refl)))
    (failed_count (Unit {0}) Values _ _ c.in_err-add_all.field-0.0 added.reads.counted))

pub returns-clause-file : goal.returns-clause-file
returns-clause-file g c =
    let added = c.in_ok-add_all.ensures.file in
    files_bounded c.args.file.now c.add_all.new.file _ true _ _ _ added
    (all_calls (placed_of c.args.file.now) c.placed.result.now c.placed-2.result.now c.args.var c.args.slab.now c.in_ok-grid.grid c.xtype.result c.new-values.result
    c.placed.ensures c.placed-2.ensures c.xtype.ensures c.new-values.ensures _ _ c.in_ok-grid.ensures.places.1 (added.reads.calls refl))
