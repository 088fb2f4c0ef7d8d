-- The bytes of elements that lie one after the other.
use Rattle.std.proofs.Common.{◌≡◌, ℕ, zero, suc, ◌+◌, ◌-◌, ◌*◌, ◌/◌, ◌<◌, ◌≤◌, min, List, ◌++◌, map, length, take, drop, refl, sym, ap, ◌∙◌, arith}
use Rattle.std.specs.List.{range_with_len}
use Rattle.std.proofs.Math.Seq.{take-add}
use Rattle.std.proofs.Math.Nat.{add-mul}
use Rattle.std.proofs.lemmas.List.{drop-drop, length-take, length-drop}
use Rattle.std.proofs.lemmas.Nat.{mul-le}
use Rattle.std.proofs.lemmas.List.FromFn.{length-map-range_with_len}
use Rattle.std.proofs.lemmas.Grind.{flat_map-append}
use Rattle.ncc_slab.specs.Selected.{bytes_at, bytes_at_places}
use Rattle.ncc_slab.proofs.Ranges.{last_and_one, take-map-range, drop-map-range}

-- the bytes of a stretch are those of its elements
pub stretch_bytes : (file : List ℕ) (size : ℕ) (f : ℕ → ℕ) (n m place : ℕ) → ((i : ℕ) → i < m → f (n + i) ≡ place + i * size)
    → take (m * size) (drop place file) ≡ bytes_at_places file size (map f (range_with_len n m))
stretch_bytes file size f n zero place adjoin = ap (λ (k : ℕ). take k (drop place file)) (let none : zero * size ≡ 0 = omega arith in none)
stretch_bytes file size f n (suc m) place adjoin =
    let here : f n ≡ place = ap f (let same : n ≡ n + 0 = omega arith in same) ∙ adjoin 0 (omega arith) ∙ omega arith in
    let more : (i : ℕ) → i < m → f (n + 1 + i) ≡ place + size + i * size = λ i lt.
    ap f (let same : n + 1 + i ≡ n + suc i = omega arith in same) ∙ adjoin (suc i) (omega (arith, lt)) ∙ omega arith in
    let whole : suc m * size ≡ size + m * size = omega arith in
    ap (λ (k : ℕ). take k (drop place file)) whole
    ∙ take-add size (m * size) (drop place file)
    ∙ ap (λ (l : List ℕ). take size (drop place file) ++ take (m * size) l) (drop-drop size place file)
    ∙ ap (λ (l : List ℕ). take size (drop place file) ++ l) (stretch_bytes file size f (n + 1) m (place + size) more)
    ∙ ap (λ (p : ℕ). bytes_at file p size ++ bytes_at_places file size (map f (range_with_len (n + 1) m))) (sym here)

-- some elements, and after them a stretch
pub bytes_so_far : (file : List ℕ) (size : ℕ) (f : ℕ → ℕ) (first rest done more place : ℕ) → done + more ≤ rest → ((i : ℕ) → i < more → f (first + done + i) ≡ place + i * size)
    → bytes_at_places file size (take done (map f (range_with_len first rest))) ++ take (more * size) (drop place file)
    ≡ bytes_at_places file size (take (done + more) (map f (range_with_len first rest)))
bytes_so_far file size f first rest done more place le adjoin =
    let all = map f (range_with_len first rest) in
    let next : take more (drop done all) ≡ map f (range_with_len (first + done) more) =
    ap (take more) (drop-map-range f done first rest (first + done) refl) ∙ take-map-range f (first + done) (rest - done) more (omega (arith, le)) in
    ap (λ (l : List ℕ). bytes_at_places file size (take done all) ++ l) (stretch_bytes file size f (first + done) more place adjoin)
    ∙ ap (λ (l : List ℕ). bytes_at_places file size (take done all) ++ bytes_at_places file size l) (sym next)
    ∙ sym (flat_map-append (λ (place : ℕ). bytes_at file place size) (take done all) (take more (drop done all)))
    ∙ ap (bytes_at_places file size) (sym (take-add done more all))

-- ---- the room of a stretch

pub room_is : (done more size : ℕ) → (done + more) * size - done * size ≡ more * size
room_is done more size = omega (arith, add-mul done more size)

pub room_there : (done more count size : ℕ) (out : List ℕ) → done + more ≤ count → length out ≡ count * size
    → length (take ((done + more) * size - done * size) (drop (done * size) out)) ≡ more * size
room_there done more count size out le long =
    omega (
      arith,
      length-take ((done + more) * size - done * size) (drop (done * size) out),
      length-drop (done * size) out,
      room_is done more size,
      add-mul done more size,
      mul-le (done + more) size count size le (omega arith),
      long,
    )

-- the elements of a stretch end where its last one does
pub stretch_end : (f : ℕ → ℕ) (next more place size end : ℕ) → 0 < more → ((i : ℕ) → i < more → f (next + i) ≡ place + i * size)
    → f (next + (more - 1)) + size ≤ end → place + more * size ≤ end
stretch_end f next more place size end some adjoin last =
    omega (arith, adjoin (more - 1) (omega (arith, some)), last, last_and_one more size some)

pub part_long : (left size room n : ℕ) (buffer : List ℕ) → n ≡ min left (65536 / size) → size ≡ room
    → min left (65536 / room) * room ≤ length buffer → length (take (n * size) buffer) ≡ n * size
part_long left size room n buffer is same fits =
    let most : n * size ≡ min left (65536 / room) * room =
    ap (λ (m : ℕ). m * size) is ∙ ap (λ (m : ℕ). min left (65536 / m) * m) same in
    omega (arith, length-take (n * size) buffer, most, fits)

pub part_counted : (f : ℕ → ℕ) (first left n room : ℕ) → n ≡ min left room → length (take n (map f (range_with_len first left))) ≡ n
part_counted f first left n room is = omega (arith, length-take n (map f (range_with_len first left)), length-map-range_with_len f first left, is)
