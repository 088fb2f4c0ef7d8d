-- Elements at even distances, each of which is a stretch.
use Rattle.std.proofs.Common.{◌≡◌, ℕ, zero, suc, ◌+◌, ◌-◌, ◌*◌, ◌<◌, ◌≤◌, List, ◌++◌, map, take, drop, refl, sym, ap, ◌∙◌, arith}
use Rattle.std.specs.List.{range_with_len}
use Rattle.std.proofs.Math.Seq.{take-add}
use Rattle.std.proofs.lemmas.Grind.{flat_map-append}
use Rattle.ncc_slab.specs.Selected.{bytes_at, bytes_at_places}
use Rattle.ncc_slab.specs.Stretches.{stretches}
use Rattle.ncc_slab.specs.Apart.{places_apart}
use Rattle.ncc_slab.proofs.Calls.{one_more}
use Rattle.ncc_slab.proofs.Ranges.{map-range_shift, take-map-range, drop-map-range}
use Rattle.ncc_slab.proofs.Stretches.{bytes_so_far}

-- one element more
pub next_apart : (file : List ℕ) (size place step count done : ℕ) → done < count
    → bytes_at_places file size (take done (places_apart place step count)) ++ take (1 * size) (drop (place + done * step) file)
    ≡ bytes_at_places file size (take (done + 1) (places_apart place step count))
next_apart file size place step count done lt =
    bytes_so_far file size (λ (i : ℕ). place + i * step) 0 count done 1 (place + done * step) (omega (arith, lt))
    (λ i below.
    let none : i ≡ 0 = omega (arith, below) in
    let here : 0 + done + i ≡ done = omega (arith, none) in
    ap (λ (m : ℕ). place + m * step) here ∙ omega (arith, ap (λ (m : ℕ). m * size) none))

-- some elements, and after them those
pub apart_so_far : (file : List ℕ) (size : ℕ) (f : ℕ → ℕ) (first rest done more place step : ℕ) → done + more ≤ rest
    → ((i : ℕ) → i < more → f (first + done + i) ≡ place + i * step)
    → bytes_at_places file size (take done (map f (range_with_len first rest))) ++ bytes_at_places file size (places_apart place step more)
    ≡ bytes_at_places file size (take (done + more) (map f (range_with_len first rest)))
apart_so_far file size f first rest done more place step le even =
    let all = map f (range_with_len first rest) in
    let next : take more (drop done all) ≡ map f (range_with_len (first + done) more) =
    ap (take more) (drop-map-range f done first rest (first + done) refl) ∙ take-map-range f (first + done) (rest - done) more (omega (arith, le)) in
    let start : map f (range_with_len (first + done) more) ≡ map f (range_with_len (first + done + 0) more) =
    ap (λ (n : ℕ). map f (range_with_len n more)) (let same : first + done ≡ first + done + 0 = omega arith in same) in
    let here : map f (range_with_len (first + done + 0) more) ≡ places_apart place step more =
    map-range_shift f (λ (i : ℕ). place + i * step) (first + done) 0 more (λ k low high. even k (omega (arith, high))) in
    ap (λ (l : List ℕ). bytes_at_places file size (take done all) ++ bytes_at_places file size l) (sym (next ∙ start ∙ here))
    ∙ sym (flat_map-append (λ (place : ℕ). bytes_at file place size) (take done all) (take more (drop done all)))
    ∙ ap (bytes_at_places file size) (sym (take-add done more all))

-- each of them adds a stretch, where none adjoins the one before it
pub more_apart : (size : ℕ) (f : ℕ → ℕ) (a k more : ℕ) → ((j : ℕ) → j < more → 0 < k + j → f (a + (k + j)) ≡ f (a + (k + j) - 1) + size → ⊥)
    → stretches size (map f (range_with_len a k)) + more ≤ stretches size (map f (range_with_len a (k + more)))
more_apart size f a k zero apart =
    let same : k ≡ k + zero = omega arith in
    omega (arith, ap (λ (n : ℕ). stretches size (map f (range_with_len a n))) same)
more_apart size f a k (suc more) apart =
    let before = more_apart size f a k more (λ j lt. apart j (omega (arith, lt))) in
    let last = one_more size f a (k + more) 1 (omega arith) (apart more (omega arith)) in
    let same : k + more + 1 ≡ k + suc more = omega arith in
    omega (arith, before, last, ap (λ (n : ℕ). stretches size (map f (range_with_len a n))) same)

-- none of them adjoins the one before it, where the first doesn't
pub none_adjoins : (size step place : ℕ) (f : ℕ → ℕ) (first done even : ℕ) → (step ≡ size → ⊥) → ((i : ℕ) → i < even → f (first + done + i) ≡ place + i * step)
    → (0 < done → f (first + done) ≡ f (first + done - 1) + size → ⊥)
    → (j : ℕ) → j < even → 0 < done + j → f (first + (done + j)) ≡ f (first + (done + j) - 1) + size → ⊥
none_adjoins size step place f first done even not at before zero lt some is =
    let here : first + done ≡ first + (done + zero) = omega arith in
    let last : first + (done + zero) - 1 ≡ first + done - 1 = omega arith in
    before (omega (arith, some)) (ap f here ∙ is ∙ ap (λ (n : ℕ). f n + size) last)
none_adjoins size step place f first done even not at before (suc j) lt some is =
    let here : f (first + (done + suc j)) ≡ place + suc j * step = ap f (let same : first + (done + suc j) ≡ first + done + suc j = omega arith in same) ∙ at (suc j) lt in
    let last : f (first + (done + suc j) - 1) ≡ place + j * step = ap f (let same : first + (done + suc j) - 1 ≡ first + done + j = omega arith in same) ∙ at j (omega (arith, lt)) in
    not (omega (arith, is, here, last))
