use Rattle.std.proofs.Common.{true, refl, ◌≡◌, ◌+◌, ◌-◌, ◌*◌, ◌≤◌, ◌++◌, ℕ, inl, inr, List, map, length, take, drop, ap, subst, ◌∙◌, arith}
use Rattle.std.specs.List.{range_with_len}
use Rattle.std.proofs.lemmas.Result.{err_from_is_err_and}
use Rattle.std.proofs.lemmas.Slice.{take-put_mid}
use Rattle.std.proofs.lemmas.Nat.{mul-le}
use Rattle.std.proofs.Math.Nat.{add-mul}
use Rattle.ncc_layout.specs.Placed.{file_length_of}
use Rattle.ncc_check.specs.Files.{store_of}
use Rattle.ncc_check.proofs.ReadFiles.{files_join, files_bounded}
use Rattle.ncc_slab.specs.Grids.{grid_place, grid_rest, IsRun}
use Rattle.ncc_slab.specs.Axes.{place_at}
use Rattle.ncc_slab.specs.Selected.{bytes_at_places}
use Rattle.ncc_slab.specs.Stretches.{stretches}
use Rattle.ncc_slab.specs.Apart.{places_apart}
use Rattle.ncc_slab.proofs.Blocks.{run_behind}
use Rattle.ncc_slab.proofs.Apart.{apart_so_far, more_apart, none_adjoins}
use Rattle.ncc_slab.proofs.Calls.{one_more, ends_apart, stretches_grow}
use Rattle.ncc_slab.proofs.Ranges.{take-map-range}
use Rattle.ncc_slab.proofs.Stretches.{bytes_so_far, room_there, stretch_end}
use Rattle.ncc_slab.proofs.fetching.fetch_elements.Goals as goal

pub fetch-requires : goal.fetch-requires
fetch-requires g c =
    let at = c.loop-done.invariant in
    let more = c.stretch-more.result.0 in
    let next = c.args.first + c.loop-done.done in
    let end = stretch_end (grid_place c.args.grid.now) next more c.loop-done.run.place c.args.size _ c.stretch-more.ensures.some c.stretch-more.ensures.adjoin
    (c.requires.ends (next + (more - 1)) (omega arith)) in
    let room = room_there c.loop-done.done more c.args.count c.args.size c.loop-done.out (omega arith) (c.loop-done.auto.out ∙ c.requires.room) in
    let placed = ap file_length_of at.file.placed in
    omega (arith, end, room, placed)

pub loop-done-preserved : goal.loop-done-preserved
loop-done-preserved g c =
    let at = c.loop-done.invariant in
    let fetched = c.in_ok-fetch.ensures in
    let grid = c.args.grid.now in
    let size = c.args.size in
    let done = c.loop-done.done in
    let more = c.stretch-more.result.0 in
    let bytes = g.S.Store.bytes (store_of c.args.file.now) in
    let long : length c.loop-done.out ≡ c.args.count * size = c.loop-done.auto.out ∙ c.requires.room in
    let room = room_there done more c.args.count size c.loop-done.out (omega arith) long in
    let new_long : length c.fetch.new.out ≡ more * size = c.fetch.auto.out ∙ room in
    let begin : done * size ≤ length c.loop-done.out = omega (arith, long, mul-le done size c.args.count size (omega arith) (omega arith)) in
    let end : (done + more) * size ≡ done * size + length c.fetch.new.out = omega (arith, new_long, add-mul done more size) in
    record {
      within = omega arith;
      told = λ told.
          let piece : c.fetch.new.out ≡ take (more * size) (drop c.loop-done.run.place bytes) =
          fetched.told told
          ∙ ap (λ (k : ℕ). take k (drop c.loop-done.run.place (g.S.Store.bytes (store_of c.loop-done.file)))) room
          ∙ ap (λ (b : List ℕ). take (more * size) (drop c.loop-done.run.place b)) at.file.reads.unmoved.same in
          take-put_mid (done * size) ((done + more) * size - done * size) c.loop-done.out c.fetch.new.out ((done + more) * size) end begin
          ∙ ap (λ (l : List ℕ). l ++ c.fetch.new.out) (at.told told)
          ∙ ap (λ (l : List ℕ). bytes_at_places bytes size (take done (grid_rest grid c.args.first)) ++ l) piece
          ∙ bytes_so_far bytes size (place_at grid.base grid.axes.items) c.args.first (grid.count - c.args.first) done more c.loop-done.run.place
          (omega arith) c.stretch-more.ensures.adjoin;
      file =
          let end = stretch_end (grid_place grid) (c.args.first + done) more c.loop-done.run.place size _ c.stretch-more.ensures.some c.stretch-more.ensures.adjoin
          (c.requires.ends (c.args.first + done + (more - 1)) (omega arith)) in
          let grown = one_more size (grid_place grid) c.args.first done more c.stretch-more.ensures.some (at.apart c.loop-done-test.true) in
          files_join c.args.file.now c.loop-done.file c.fetch.new.self _ true _ 1 _ _ _ at.file fetched.file (omega (arith, grown)) (omega (arith, end, room));
      apart = λ below some is.
          elim c.stretch-more.ensures.longest [
            | inl all ↦ absurd (omega (arith, all, below))
            | inr not ↦
                ends_apart size (grid_place grid) c.args.first done more c.loop-done.run.place c.stretch-more.ensures.some c.stretch-more.ensures.adjoin not is
          ];
      run = λ below.
          let same : c.args.first + done + more ≡ c.args.first + (done + more) = omega arith in
          subst (λ (n : ℕ). IsRun c.step-step.result grid n c.stretch-more.result.1) same (c.stretch-more.ensures.next (omega (arith, below)));
      left = λ below. omega (arith, c.stretch-more.ensures.within (omega (arith, below)));
    }

pub returns-in_err-fetch-clause-file : goal.returns-in_err-fetch-clause-file
returns-in_err-fetch-clause-file g c =
    let at = c.loop-done.invariant in
    let grid = c.args.grid.now in
    let size = c.args.size in
    let first = c.args.first in
    let done = c.loop-done.done in
    let more = c.stretch-more.result.0 in
    let room = room_there done more c.args.count size c.loop-done.out (omega arith) (c.loop-done.auto.out ∙ c.requires.room) in
    let end = stretch_end (grid_place grid) (first + done) more c.loop-done.run.place size _ c.stretch-more.ensures.some c.stretch-more.ensures.adjoin
    (c.requires.ends (first + done + (more - 1)) (omega arith)) in
    let left = c.args.count - done in
    let grown = one_more size (grid_place grid) first done left (omega (arith, c.loop-done-test.true)) (at.apart c.loop-done-test.true) in
    let all : done + left ≡ c.args.count = omega (arith, at.within) in
    let whole = take-map-range (grid_place grid) first (grid.count - first) c.args.count (omega (arith, c.requires.there)) in
    let p = err_from_is_err_and c.from_residual-in_err-fetch.result c.from_residual-in_err-fetch.ensures.1 in
    rw (whole, p.1) (files_join c.args.file.now c.loop-done.file c.fetch.new.self _ true _ 1 _ _ _ at.file c.in_err-fetch.ensures.file
    (omega (arith, grown, ap (λ (n : ℕ). stretches size (map (grid_place grid) (range_with_len first n))) all)) (omega (arith, end, room)))

pub returns-clause-file : goal.returns-clause-file
returns-clause-file g c =
    let at = c.loop-done.invariant in
    let grid = c.args.grid.now in
    let first = c.args.first in
    let all : c.loop-done.done ≡ c.args.count = omega (arith, at.within, c.loop-done-test.false) in
    let whole = take-map-range (grid_place grid) first (grid.count - first) c.args.count (omega (arith, c.requires.there)) in
    rw whole (files_bounded c.args.file.now c.loop-done.file _ true _ _ _ at.file (omega (arith, at.file.reads.calls refl, ap (λ (n : ℕ). stretches c.args.size (map (grid_place grid) (range_with_len first n))) all)))

pub returns-in_err-fetch_apart-clause-file : goal.returns-in_err-fetch_apart-clause-file
returns-in_err-fetch_apart-clause-file g c =
    let at = c.loop-done.invariant in
    let grid = c.args.grid.now in
    let f = grid_place grid in
    let size = c.args.size in
    let first = c.args.first in
    let done = c.loop-done.done in
    let run = c.loop-done.run in
    let is = at.run c.loop-done-test.true in
    let left = at.left c.loop-done-test.true in
    let more = run.count - 1 in
    let none = none_adjoins size c.step-step.result run.place f first done run.count c.if-step-size.true is.even (at.apart c.loop-done-test.true) in
    let grown = more_apart size f first done more (λ j lt. none j (omega (arith, lt))) in
    let rest = stretches_grow size f first (done + more) (c.args.count - (done + more)) in
    let all : done + more + (c.args.count - (done + more)) ≡ c.args.count = omega (arith, left, at.within) in
    let whole = take-map-range f first (grid.count - first) c.args.count (omega (arith, c.requires.there)) in
    let p = err_from_is_err_and c.from_residual.result c.from_residual.ensures.1 in
    rw (whole, p.1) (files_join c.args.file.now c.loop-done.file c.fetch_apart.new.file _ true _ more _ _ _ at.file c.in_err-fetch_apart.ensures.file
    (omega (arith, grown, rest, ap (λ (n : ℕ). stretches size (map f (range_with_len first n))) all)) (omega (arith, ap file_length_of at.file.placed)))

pub loop-done-preserved-then-run-gt1 : goal.loop-done-preserved-then-run-gt1
loop-done-preserved-then-run-gt1 g c =
    let at = c.loop-done.invariant in
    let fetched = c.in_ok-fetch_apart.ensures in
    let grid = c.args.grid.now in
    let f = grid_place grid in
    let size = c.args.size in
    let first = c.args.first in
    let done = c.loop-done.done in
    let run = c.loop-done.run in
    let is = at.run c.loop-done-test.true in
    let left = at.left c.loop-done-test.true in
    let more = run.count - 1 in
    let bytes = g.S.Store.bytes (store_of c.args.file.now) in
    let within : done + more ≤ c.args.count = omega (arith, left, c.loop-done-test.true) in
    let long : length c.loop-done.out ≡ c.args.count * size = c.loop-done.auto.out ∙ c.requires.room in
    let room = room_there done more c.args.count size c.loop-done.out within long in
    let new_long : length c.fetch_apart.new.out ≡ more * size = c.fetch_apart.auto.out ∙ room in
    let begin : done * size ≤ length c.loop-done.out = omega (arith, long, mul-le done size c.args.count size (omega (arith, c.loop-done-test.true)) (omega arith)) in
    let end : (done + more) * size ≡ done * size + length c.fetch_apart.new.out = omega (arith, new_long, add-mul done more size) in
    let none = none_adjoins size c.step-step.result run.place f first done run.count c.if-step-size.true is.even (at.apart c.loop-done-test.true) in
    record {
      within = within;
      told = λ told.
          let piece : c.fetch_apart.new.out ≡ bytes_at_places bytes size (places_apart run.place c.step-step.result more) =
          fetched.told told
          ∙ ap (λ (b : List ℕ). bytes_at_places b size (places_apart run.place c.step-step.result more)) at.file.reads.unmoved.same in
          take-put_mid (done * size) ((done + more) * size - done * size) c.loop-done.out c.fetch_apart.new.out ((done + more) * size) end begin
          ∙ ap (λ (l : List ℕ). l ++ c.fetch_apart.new.out) (at.told told)
          ∙ ap (λ (l : List ℕ). bytes_at_places bytes size (take done (grid_rest grid first)) ++ l) piece
          ∙ apart_so_far bytes size (place_at grid.base grid.axes.items) first (grid.count - first) done more run.place c.step-step.result
          (omega (arith, within, c.requires.there)) (λ i lt. is.even i (omega (arith, lt)));
      file =
          let grown = more_apart size f first done more (λ j lt. none j (omega (arith, lt))) in
          files_join c.args.file.now c.loop-done.file c.fetch_apart.new.file _ true _ more _ _ _ at.file fetched.file (omega (arith, grown)) (omega (arith, ap file_length_of at.file.placed));
      apart = λ below some. none more (omega (arith, c.if-run-gt1.true)) some;
      run = λ below. record {
        some = omega arith;
        even = λ i lt.
            let same : first + (done + more) + i ≡ first + done + more + i = omega arith in
            ap f same ∙ run_behind f (first + done) more run.count run.place c.step-step.result is.even i (omega (arith, lt, is.some));
      };
      left = λ below. omega (arith, below);
    }
