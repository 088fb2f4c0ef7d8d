use Rattle.std.proofs.Common.{true, ◌≡◌, ◌+◌, ◌-◌, ◌*◌, ◌≤◌, ◌++◌, ℕ, List, length, take, drop, sym, ap, ◌∙◌, arith}
use Rattle.std.proofs.lemmas.List.{take_all}
use Rattle.std.proofs.lemmas.Slice.{take-put_mid}
use Rattle.std.proofs.lemmas.Nat.{mul-le}
use Rattle.std.proofs.lemmas.List.FromFn.{length-map-range_with_len}
use Rattle.std.proofs.Math.Nat.{add-mul}
use Rattle.ncc_check.specs.Files.{store_of}
use Rattle.ncc_check.proofs.ReadFiles.{files_join}
use Rattle.ncc_slab.specs.Apart.{places_apart}
use Rattle.ncc_slab.specs.Selected.{bytes_at_places}
use Rattle.ncc_slab.proofs.Apart.{next_apart}
use Rattle.ncc_slab.proofs.Stretches.{room_there}
use Rattle.ncc_slab.proofs.fetching.fetch_apart.Goals as goal

pub loop-done-preserved : goal.loop-done-preserved
loop-done-preserved g c =
    let at = c.loop-done.invariant in
    let fetched = c.in_ok-fetch.ensures in
    let size = c.args.size in
    let done = c.loop-done.done in
    let bytes = g.S.Store.bytes (store_of c.args.file.now) in
    let long : length c.loop-done.out ≡ c.args.count * size = c.loop-done.auto.out ∙ c.requires.room in
    let room = room_there done 1 c.args.count size c.loop-done.out (omega (arith, c.loop-done-test.true)) long in
    let new_long : length c.fetch.new.out ≡ 1 * size = c.fetch.auto.out ∙ room in
    let begin : done * size ≤ length c.loop-done.out = omega (arith, long, mul-le done size c.args.count size (omega (arith, c.loop-done-test.true)) (omega arith)) in
    let end : (done + 1) * size ≡ done * size + length c.fetch.new.out = omega (arith, new_long, add-mul done 1 size) in
    let last = c.requires.ends done c.loop-done-test.true in
    record {
      within = omega (arith, c.loop-done-test.true);
      told = λ told.
          let piece : c.fetch.new.out ≡ take (1 * size) (drop (c.args.place + done * c.args.step) bytes) =
          fetched.told told
          ∙ ap (λ (k : ℕ). take k (drop (c.args.place + done * c.args.step) (g.S.Store.bytes (store_of c.loop-done.file)))) room
          ∙ ap (λ (b : List ℕ). take (1 * size) (drop (c.args.place + done * c.args.step) b)) at.file.reads.unmoved.same in
          take-put_mid (done * size) ((done + 1) * size - done * size) c.loop-done.out c.fetch.new.out ((done + 1) * size) end begin
          ∙ ap (λ (l : List ℕ). l ++ c.fetch.new.out) (at.told told)
          ∙ ap (λ (l : List ℕ). bytes_at_places bytes size (take done (places_apart c.args.place c.args.step c.args.count)) ++ l) piece
          ∙ next_apart bytes size c.args.place c.args.step c.args.count done c.loop-done-test.true;
      file = files_join c.args.file.now c.loop-done.file c.fetch.new.self _ true done 1 (done + 1) _ _ at.file fetched.file (omega arith) (omega (arith, last, room));
    }

pub returns-clause-told : goal.returns-clause-told
returns-clause-told g c = λ told.
    let at = c.loop-done.invariant in
    let all : c.loop-done.done ≡ c.args.count = omega (arith, at.within, c.loop-done-test.false) in
    let size = c.args.size in
    let bytes = g.S.Store.bytes (store_of c.args.file.now) in
    let places = places_apart c.args.place c.args.step c.args.count in
    let long : length c.loop-done.out ≡ c.loop-done.done * size = c.loop-done.auto.out ∙ c.requires.room ∙ ap (λ (n : ℕ). n * size) (sym all) in
    let counted : length places ≡ c.loop-done.done = length-map-range_with_len (λ (i : ℕ). c.args.place + i * c.args.step) 0 c.args.count ∙ sym all in
    sym (take_all (c.loop-done.done * size) c.loop-done.out (omega (arith, long)))
    ∙ at.told told
    ∙ ap (bytes_at_places bytes size) (take_all c.loop-done.done places (omega (arith, counted)))
