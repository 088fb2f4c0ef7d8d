-- How many stretches a run of places has, and how many calls of a store its parts take.
use Rattle.std.proofs.Common.{◌≡◌, ℕ, zero, suc, ◌+◌, ◌-◌, ◌*◌, ◌/◌, ◌<◌, ◌≤◌, min, eqb, cond, Bool, [], map, length, take, drop, sym, ap, ◌∙◌, arith}
use Rattle.std.specs.Prelude.{sum_by}
use Rattle.std.specs.List.{range_with_len}
use Rattle.std.proofs.lemmas.Bool.{ne_eqb}
use Rattle.std.proofs.lemmas.Nat.{le-div}
use Rattle.std.proofs.lemmas.List.FromFn.{length-map-range_with_len}
use Rattle.std.proofs.lemmas.List.Sums.{sum_by-cons}
use Rattle.std.proofs.Math.Nat.{add-mul}
use Rattle.ncc_values.specs.declared.xtype.XType.{XType}
use Rattle.ncc_values.specs.XType.{size_of}
use Rattle.ncc_slab.specs.Answers.{part_count}
use Rattle.ncc_slab.specs.Stretches.{breaks, stretches, part_stretches, stretches_in, all_stretches}
use Rattle.ncc_slab.proofs.Joined.{room_some}
use Rattle.ncc_slab.proofs.Ranges.{drop-map-range}

-- ---- more places

breaks_grow : (size : ℕ) (f : ℕ → ℕ) (p a k m : ℕ) → breaks size p (map f (range_with_len a k)) ≤ breaks size p (map f (range_with_len a (k + m)))
breaks_grow size f p a zero m = omega arith
breaks_grow size f p a (suc k) m =
    let one : suc k + m ≡ suc (k + m) = omega arith in
    rw one (let more = breaks_grow size f (f a) (a + 1) k m in omega (arith, more))

pub stretches_grow : (size : ℕ) (f : ℕ → ℕ) (a k m : ℕ) → stretches size (map f (range_with_len a k)) ≤ stretches size (map f (range_with_len a (k + m)))
stretches_grow size f a zero m = omega arith
stretches_grow size f a (suc k) m =
    let one : suc k + m ≡ suc (k + m) = omega arith in
    rw one (let more = breaks_grow size f (f a) (a + 1) k m in omega (arith, more))

-- what a place adds
abbrev one_if : Bool → ℕ
one_if b = cond b 0 1

-- a stretch after one that doesn't go on
breaks_more : (size : ℕ) (f : ℕ → ℕ) (a k m : ℕ) → (f (a + 1 + k) ≡ f (a + k) + size → ⊥)
    → breaks size (f a) (map f (range_with_len (a + 1) k)) + 1 ≤ breaks size (f a) (map f (range_with_len (a + 1) (k + suc m)))
breaks_more size f a zero m apart =
    let none : 0 + suc m ≡ suc m = omega arith in
    let here : a + 1 + 0 ≡ a + 1 = omega arith in
    let there : a + 0 ≡ a = omega arith in
    let not : f (a + 1) ≡ f a + size → ⊥ = λ is. apart (ap f here ∙ is ∙ ap (λ (n : ℕ). f n + size) (sym there)) in
    let counted : one_if (eqb (f (a + 1)) (f a + size)) ≡ 1 = ap one_if (ne_eqb (f (a + 1)) (f a + size) not) in
    rw none (omega (arith, counted))
breaks_more size f a (suc k) m apart =
    let one : suc k + suc m ≡ suc (k + suc m) = omega arith in
    let next : f (a + 1 + 1 + k) ≡ f (a + 1 + k) + size → ⊥ = λ is.
    apart (ap f (let same : a + 1 + suc k ≡ a + 1 + 1 + k = omega arith in same) ∙ is ∙ ap (λ (n : ℕ). f n + size) (let same : a + 1 + k ≡ a + suc k = omega arith in same)) in
    rw one (let more = breaks_more size f (a + 1) k m next in omega (arith, more))

-- the places of k elements from the a-th on, and after them some that don't adjoin
pub one_more : (size : ℕ) (f : ℕ → ℕ) (a k m : ℕ) → 0 < m → (0 < k → f (a + k) ≡ f (a + k - 1) + size → ⊥)
    → stretches size (map f (range_with_len a k)) + 1 ≤ stretches size (map f (range_with_len a (k + m)))
one_more size f a k zero some apart = absurd (omega (arith, some))
one_more size f a zero (suc m) some apart =
    let none : 0 + suc m ≡ suc m = omega arith in
    rw none (omega arith)
one_more size f a (suc k) (suc m) some apart =
    let one : suc k + suc m ≡ suc (k + suc m) = omega arith in
    let next : f (a + 1 + k) ≡ f (a + k) + size → ⊥ = λ is.
    apart (omega arith) (ap f (let same : a + suc k ≡ a + 1 + k = omega arith in same) ∙ is ∙ ap (λ (n : ℕ). f n + size) (let same : a + k ≡ a + suc k - 1 = omega arith in same)) in
    rw one (let more = breaks_more size f a k m next in omega (arith, more))

-- where a stretch ends the next element doesn't adjoin
pub ends_apart : (size : ℕ) (f : ℕ → ℕ) (first done more place : ℕ) → 0 < more → ((i : ℕ) → i < more → f (first + done + i) ≡ place + i * size)
    → (f (first + done + more) ≡ place + more * size → ⊥) → f (first + (done + more)) ≡ f (first + (done + more) - 1) + size → ⊥
ends_apart size f first done zero place some adjoin not is = absurd (omega (arith, some))
ends_apart size f first done (suc k) place some adjoin not is =
    let last : f (first + (done + suc k) - 1) ≡ place + k * size =
    ap f (let same : first + (done + suc k) - 1 ≡ first + done + k = omega arith in same) ∙ adjoin k (omega arith) in
    let here : f (first + done + suc k) ≡ f (first + (done + suc k)) = ap f (let same : first + done + suc k ≡ first + (done + suc k) = omega arith in same) in
    not (omega (arith, is, last, here))

-- ---- parts

-- the first part of a run of places
pub first_part : (f : ℕ → ℕ) (first left n room size : ℕ) → n ≡ min left (65536 / room) → room ≡ size
    → stretches room (take n (map f (range_with_len first left))) ≡ part_stretches size (map f (range_with_len first left))
first_part f first left n room size is same =
    let places = map f (range_with_len first left) in
    let counted : n ≡ part_count size places = is ∙ ap (λ (m : ℕ). min left (65536 / m)) same
    ∙ ap (λ (m : ℕ). min m (65536 / size)) (sym (length-map-range_with_len f first left)) in
    ap (λ (m : ℕ). stretches m (take n places)) same ∙ ap (λ (m : ℕ). stretches size (take m places)) counted

sum_one_more : (g : ℕ → ℕ) (a n : ℕ) → sum_by g (range_with_len a (n + 1)) ≡ sum_by g (range_with_len a n) + g (a + n)
sum_one_more g a zero =
    let same : a + 0 ≡ a = omega arith in
    rw same (omega (arith, sum_by-cons g a []))
sum_one_more g a (suc n) =
    let one : suc n + 1 ≡ suc (n + 1) = omega arith in
    let next : a + 1 + n ≡ a + suc n = omega arith in
    rw one (omega (arith, sum_one_more g (a + 1) n, ap g next, sum_by-cons g a (range_with_len (a + 1) (n + 1)), sum_by-cons g a (range_with_len (a + 1) n)))

sum_grows : (g : ℕ → ℕ) (a n m : ℕ) → sum_by g (range_with_len a n) ≤ sum_by g (range_with_len a (n + m))
sum_grows g a zero m = omega arith
sum_grows g a (suc n) m =
    let one : suc n + m ≡ suc (n + m) = omega arith in
    rw one (omega (arith, sum_grows g (a + 1) n m, sum_by-cons g a (range_with_len (a + 1) (n + m)), sum_by-cons g a (range_with_len (a + 1) n)))

-- so many parts are read: of so many elements, by so many calls
pub record HasRead (t : XType) (f : ℕ → ℕ) (count taken old new : ℕ) : Type 0 where
  pub parts : ℕ
  pub taken_is : taken ≡ min (parts * (65536 / size_of t)) count
  pub within : parts ≤ count / (65536 / size_of t) + 1
  pub calls : new ≤ old + sum_by (stretches_in (size_of t) (map f (range_with_len 0 count))) (range_with_len 0 parts)

pub none_read : (t : XType) (f : ℕ → ℕ) (count old : ℕ) → HasRead t f count 0 old old
none_read t f count old = record { parts = 0; taken_is = omega arith; within = omega arith; calls = omega arith }

pub part_read : (t : XType) (f : ℕ → ℕ) (count taken n old mid new : ℕ) → taken < count → n ≡ part_count (size_of t) (map f (range_with_len taken (count - taken)))
    → HasRead t f count taken old mid → new ≤ mid + part_stretches (size_of t) (map f (range_with_len taken (count - taken))) → HasRead t f count (taken + n) old new
part_read t f count taken n old mid new below is read more =
    let size = size_of t in
    let room = 65536 / size in
    let some : 0 < room = room_some t in
    let k = read.parts in
    let all = map f (range_with_len 0 count) in
    let at : taken ≡ k * room = omega (arith, read.taken_is, below) in
    let long = length-map-range_with_len f taken (count - taken) in
    let left : map f (range_with_len taken (count - taken)) ≡ drop (k * room) all = sym (drop-map-range f taken 0 count taken (omega arith)) ∙ ap (λ (m : ℕ). drop m all) at in
    let next : (k + 1) * room ≡ k * room + room = omega (arith, add-mul k 1 room) in
    record {
      parts = k + 1;
      taken_is = omega (arith, is, long, at, next, below);
      within = omega (arith, le-div k count room some (omega (arith, at, below)));
      calls = omega (arith, more, ap (part_stretches size) left, read.calls, sum_one_more (stretches_in size all) 0 k, ap (stretches_in size all) (let same : 0 + k ≡ k = omega arith in same));
    }

pub all_read : (t : XType) (f : ℕ → ℕ) (count taken old new : ℕ) → HasRead t f count taken old new → new ≤ old + all_stretches (size_of t) (map f (range_with_len 0 count))
all_read t f count taken old new read =
    let size = size_of t in
    let room = 65536 / size in
    let all = map f (range_with_len 0 count) in
    let total = count / room + 1 in
    let grown = sum_grows (stretches_in size all) 0 read.parts (total - read.parts) in
    let whole : read.parts + (total - read.parts) ≡ length all / room + 1 = omega (arith, read.within, ap (λ (m : ℕ). m / room) (length-map-range_with_len f 0 count)) in
    omega (arith, read.calls, grown, ap (λ (m : ℕ). sum_by (stretches_in size all) (range_with_len 0 m)) whole)
