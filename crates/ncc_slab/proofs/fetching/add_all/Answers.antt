use Rattle.std.proofs.Common.{false, ◌≡◌, ◌+◌, ◌-◌, ℕ, take, refl, ap, subst, ◌∙◌, arith}
use Rattle.std.proofs.lemmas.Result.{err_from_is_err_and}
use Rattle.ncc_values.specs.XType.{size_of}
use Rattle.ncc_values.specs.Values.{type_of}
use Rattle.ncc_layout.specs.Placed.{file_length_of}
use Rattle.ncc_check.specs.Files.{store_of}
use Rattle.ncc_check.proofs.ReadFiles.{files_join, files_bounded, files_loose}
use Rattle.ncc_slab.specs.Axes.{place_at}
use Rattle.ncc_slab.specs.Answers.{part_count}
use Rattle.ncc_slab.specs.Grids.{grid_place, grid_rest}
use Rattle.ncc_slab.specs.Stretches.{part_stretches}
use Rattle.ncc_slab.proofs.Calls.{part_read, all_read}
use Rattle.ncc_slab.specs.Selected.{AddsPlaces}
use Rattle.ncc_slab.proofs.Joined.{next_part, all_taken, part_bounds}
use Rattle.ncc_slab.proofs.fetching.add_all.Goals as goal

pub overflow_add-taken : goal.overflow_add-taken
overflow_add-taken g c =
    let grid = c.args.grid.now in
    let n = c.in_ok-taken.field-0 in
    let bounds = part_bounds (place_at grid.base grid.axes.items) c.loop-taken.taken (grid.count - c.loop-taken.taken) n (type_of c.loop-taken.values) c.in_ok-taken.ensures.took in
    omega (arith, bounds.0, c.loop-taken.invariant.within, c.count.ensures)

pub loop-taken-smaller : goal.loop-taken-smaller
loop-taken-smaller g c =
    let grid = c.args.grid.now in
    let n = c.in_ok-taken.field-0 in
    let bounds = part_bounds (place_at grid.base grid.axes.items) c.loop-taken.taken (grid.count - c.loop-taken.taken) n (type_of c.loop-taken.values) c.in_ok-taken.ensures.took in
    let some = bounds.1 (omega (arith, c.loop-taken-test.true, c.count.ensures)) in
    omega (arith, bounds.0, some, c.loop-taken-test.true, c.count.ensures)

pub loop-taken-preserved : goal.loop-taken-preserved
loop-taken-preserved g c =
    let at = c.loop-taken.invariant in
    let part = c.in_ok-taken.ensures in
    let grid = c.args.grid.now in
    let n = c.in_ok-taken.field-0 in
    let size = size_of (type_of c.args.values.now) in
    let bytes = g.S.Store.bytes (store_of c.args.file.now) in
    let rest = take n (grid_rest grid c.loop-taken.taken) in
    let bounds = part_bounds (place_at grid.base grid.axes.items) c.loop-taken.taken (grid.count - c.loop-taken.taken) n (type_of c.loop-taken.values) part.took in
    record {
      within = omega (arith, bounds.0, c.loop-taken-test.true, c.count.ensures);
      typed = part.typed ∙ at.typed;
      told = λ told.
          let same : size_of (type_of c.loop-taken.values) ≡ size = ap size_of at.typed in
          let added : AddsPlaces bytes (size_of (type_of c.loop-taken.values)) rest c.loop-taken.values c.add_part.new.values =
          subst (λ (b : _). AddsPlaces b (size_of (type_of c.loop-taken.values)) rest c.loop-taken.values c.add_part.new.values) at.file.reads.unmoved.same (part.told told) in
          next_part bytes size (place_at grid.base grid.axes.items) grid.count c.loop-taken.taken n c.args.values.now c.loop-taken.values c.add_part.new.values refl
          (at.told told) (subst (λ (k : ℕ). AddsPlaces bytes k rest c.loop-taken.values c.add_part.new.values) same added);
      counted = omega (arith, part.counted, at.counted);
      file = files_join c.args.file.now c.loop-taken.file c.add_part.new.file _ false 0 0 0 _ _ at.file (files_loose c.loop-taken.file c.add_part.new.file _ _ _ part.file) (omega arith) (omega (arith, ap file_length_of at.file.placed));
      read =
          let same : size_of (type_of c.loop-taken.values) ≡ size = ap size_of at.typed in
          part_read (type_of c.args.values.now) (grid_place grid) grid.count c.loop-taken.taken n
          (g.S.Store.calls (store_of c.args.file.now)) (g.S.Store.calls (store_of c.loop-taken.file)) (g.S.Store.calls (store_of c.add_part.new.file))
          (omega (arith, c.loop-taken-test.true, c.count.ensures)) (part.took ∙ ap (λ (m : ℕ). part_count m (grid_rest grid c.loop-taken.taken)) same) at.read
          (omega (arith, part.file.reads.calls refl, ap (λ (m : ℕ). part_stretches m (grid_rest grid c.loop-taken.taken)) same));
    }

pub returns-clause-told : goal.returns-clause-told
returns-clause-told g c = λ told.
    let grid = c.args.grid.now in
    all_taken (g.S.Store.bytes (store_of c.args.file.now)) (size_of (type_of c.args.values.now)) (place_at grid.base grid.axes.items) grid.count c.loop-taken.taken c.args.values.now c.loop-taken.values
    (omega (arith, c.loop-taken.invariant.within, c.loop-taken-test.false, c.count.ensures)) (c.loop-taken.invariant.told told)

pub returns-clause-file : goal.returns-clause-file
returns-clause-file g c =
    let grid = c.args.grid.now in
    let at = c.loop-taken.invariant in
    files_bounded c.args.file.now c.loop-taken.file _ false 0 _ _ at.file (all_read (type_of c.args.values.now) (grid_place grid) grid.count c.loop-taken.taken _ _ at.read)

pub returns-in_err-taken-clause-file : goal.returns-in_err-taken-clause-file
returns-in_err-taken-clause-file g c =
    let at = c.loop-taken.invariant in
    let part = c.in_err-taken.ensures in
    let grid = c.args.grid.now in
    let size = size_of (type_of c.args.values.now) in
    let rest = grid_rest grid c.loop-taken.taken in
    let same : size_of (type_of c.loop-taken.values) ≡ size = ap size_of at.typed in
    let read = part_read (type_of c.args.values.now) (grid_place grid) grid.count c.loop-taken.taken (part_count size rest)
    (g.S.Store.calls (store_of c.args.file.now)) (g.S.Store.calls (store_of c.loop-taken.file)) (g.S.Store.calls (store_of c.add_part.new.file))
    (omega (arith, c.loop-taken-test.true, c.count.ensures)) refl at.read (omega (arith, part.file.reads.calls refl, ap (λ (m : ℕ). part_stretches m rest) same)) in
    let p = err_from_is_err_and c.from_residual.result c.from_residual.ensures.1 in
    rw (p.1, p.2) (files_bounded c.args.file.now c.add_part.new.file _ false 0 _ _
    (files_join c.args.file.now c.loop-taken.file c.add_part.new.file _ false 0 0 0 _ _ at.file (files_loose c.loop-taken.file c.add_part.new.file _ _ _ part.file) (omega arith) (omega (arith, ap file_length_of at.file.placed)))
    (all_read (type_of c.args.values.now) (grid_place grid) grid.count (c.loop-taken.taken + part_count size rest) _ _ read))
