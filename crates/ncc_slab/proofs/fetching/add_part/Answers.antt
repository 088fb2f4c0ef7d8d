use Rattle.std.proofs.Common.{true, ◌≡◌, ℕ, ◌-◌, ◌*◌, ◌/◌, ◌≤◌, min, length, take, refl, sym, ap, subst, ◌∙◌, arith}
use Rattle.std.proofs.lemmas.List.FromFn.{length-map-range_with_len}
use Rattle.std.proofs.lemmas.Result.{err_from_is_err_and}
use Rattle.ncc_values.specs.XType.{size_of}
use Rattle.ncc_values.specs.Values.{type_of, count_of, with_bytes}
use Rattle.ncc_values.proofs.ValuesLemmas.{count_of-with_bytes}
use Rattle.ncc_check.specs.Files.{store_of}
use Rattle.ncc_check.proofs.ReadFiles.{files_bounded}
use Rattle.ncc_slab.specs.Axes.{place_at}
use Rattle.ncc_slab.specs.Grids.{grid_rest}
use Rattle.ncc_slab.specs.Selected.{bytes_at_places}
use Rattle.ncc_slab.proofs.Calls.{first_part}
use Rattle.ncc_slab.proofs.Stretches.{part_long, part_counted}
use Rattle.ncc_slab.proofs.fetching.add_part.Goals as goal

pub returns-clause-took : goal.returns-clause-took
returns-clause-took g c =
    let grid = c.args.grid.now in
    let left = length-map-range_with_len (place_at grid.base grid.axes.items) c.args.first (grid.count - c.args.first) in
    rw (c.min-count.ensures, c.count.ensures, c.size-size.ensures, c.xtype.ensures) (rw left refl)

pub returns-clause-counted : goal.returns-clause-counted
returns-clause-counted g c =
    let size = c.size-size.ensures ∙ ap size_of c.xtype.ensures in
    let long : length c.fetch_elements.new.out ≡ c.min-count.result * c.size-size.result =
    c.fetch_elements.auto.out ∙ part_long (c.count.result - c.args.first) c.size-size.result _ c.min-count.result c.args.buffer.now c.min-count.ensures size
    (subst (λ (m : ℕ). min (m - c.args.first) (65536 / size_of (type_of c.args.values.now)) * size_of (type_of c.args.values.now) ≤ length c.args.buffer.now) (sym c.count.ensures) c.requires.room) in
    ap count_of c.in_ok-push_from.ensures.ok
    ∙ count_of-with_bytes c.args.values.now c.min-count.result c.fetch_elements.new.out (long ∙ ap (λ (n : ℕ). c.min-count.result * n) size)

pub returns-clause-told : goal.returns-clause-told
returns-clause-told g c = λ told.
    let grid = c.args.grid.now in
    let first = c.args.first in
    let n = c.min-count.result in
    let bytes = g.S.Store.bytes (store_of c.args.file.now) in
    let size : c.size-size.result ≡ size_of (type_of c.args.values.now) = c.size-size.ensures ∙ ap size_of c.xtype.ensures in
    let out : c.fetch_elements.new.out ≡ bytes_at_places bytes (size_of (type_of c.args.values.now)) (take n (grid_rest grid first)) =
    c.in_ok-fetch_elements.ensures.told told ∙ ap (λ (m : ℕ). bytes_at_places bytes m (take n (grid_rest grid first))) size in
    let long : length c.fetch_elements.new.out ≡ n * size_of (type_of c.args.values.now) =
    c.fetch_elements.auto.out ∙ part_long (c.count.result - first) c.size-size.result _ n c.args.buffer.now c.min-count.ensures size
    (subst (λ (m : ℕ). min (m - first) (65536 / size_of (type_of c.args.values.now)) * size_of (type_of c.args.values.now) ≤ length c.args.buffer.now) (sym c.count.ensures) c.requires.room) ∙ ap (λ (m : ℕ). n * m) size in
    let counted = part_counted (place_at grid.base grid.axes.items) first (grid.count - first) n (65536 / c.size-size.result)
    (c.min-count.ensures ∙ ap (λ (m : ℕ). min (m - first) (65536 / c.size-size.result)) c.count.ensures) in
    record {
      is = c.in_ok-push_from.ensures.ok ∙ ap (with_bytes c.args.values.now) out;
      whole = sym (ap length out) ∙ long ∙ sym (ap (λ (m : ℕ). m * size_of (type_of c.args.values.now)) counted);
    }

pub returns-in_err-fetch_elements-clause-file : goal.returns-in_err-fetch_elements-clause-file
returns-in_err-fetch_elements-clause-file g c =
    let grid = c.args.grid.now in
    let size : c.size-size.result ≡ size_of (type_of c.args.values.now) = c.size-size.ensures ∙ ap size_of c.xtype.ensures in
    let counted = first_part (place_at grid.base grid.axes.items) c.args.first (grid.count - c.args.first) c.min-count.result c.size-size.result (size_of (type_of c.args.values.now))
    (c.min-count.ensures ∙ ap (λ (m : ℕ). min (m - c.args.first) (65536 / c.size-size.result)) c.count.ensures) size in
    let p = err_from_is_err_and c.from_residual.result c.from_residual.ensures.1 in
    rw (p.1, p.2) (files_bounded c.args.file.now c.fetch_elements.new.file _ true _ _ _ c.in_err-fetch_elements.ensures.file (omega (arith, c.in_err-fetch_elements.ensures.file.reads.calls refl, counted)))

pub returns-in_err-push_from-clause-file : goal.returns-in_err-push_from-clause-file
returns-in_err-push_from-clause-file g c =
    let grid = c.args.grid.now in
    let size : c.size-size.result ≡ size_of (type_of c.args.values.now) = c.size-size.ensures ∙ ap size_of c.xtype.ensures in
    let counted = first_part (place_at grid.base grid.axes.items) c.args.first (grid.count - c.args.first) c.min-count.result c.size-size.result (size_of (type_of c.args.values.now))
    (c.min-count.ensures ∙ ap (λ (m : ℕ). min (m - c.args.first) (65536 / c.size-size.result)) c.count.ensures) size in
    let p = err_from_is_err_and c.from_residual-in_err-push_from.result c.from_residual-in_err-push_from.ensures.1 in
    rw (p.1, p.2) (files_bounded c.args.file.now c.fetch_elements.new.file _ true _ _ _ c.in_ok-fetch_elements.ensures.file (omega (arith, c.in_ok-fetch_elements.ensures.file.reads.calls refl, counted)))

pub returns-clause-file : goal.returns-clause-file
returns-clause-file g c =
    let grid = c.args.grid.now in
    let size : c.size-size.result ≡ size_of (type_of c.args.values.now) = c.size-size.ensures ∙ ap size_of c.xtype.ensures in
    let counted = first_part (place_at grid.base grid.axes.items) c.args.first (grid.count - c.args.first) c.min-count.result c.size-size.result (size_of (type_of c.args.values.now))
    (c.min-count.ensures ∙ ap (λ (m : ℕ). min (m - c.args.first) (65536 / c.size-size.result)) c.count.ensures) size in
    files_bounded c.args.file.now c.fetch_elements.new.file _ true _ _ _ c.in_ok-fetch_elements.ensures.file (omega (arith, c.in_ok-fetch_elements.ensures.file.reads.calls refl, counted))
