-- How many calls of the store the parts of a selection take.
use Rattle.std.proofs.Common.{◌≡◌, ℕ, zero, suc, ◌+◌, ◌*◌, ◌/◌, ◌<◌, ◌≤◌, ◌⊎◌, inl, inr, List, [], length, drop, refl, sym, ap, ◌∙◌, lit<, arith}
use Rattle.std.specs.Prelude.{sum_by}
use Rattle.std.specs.List.{range_with_len}
use Rattle.std.proofs.lemmas.Bool.{cases_lt}
use Rattle.std.proofs.lemmas.List.{length-drop, drop-drop}
use Rattle.std.proofs.lemmas.List.Sums.{sum_by-cons}
use Rattle.std.proofs.Math.ListN.{drop_of_length-le}
use Rattle.std.proofs.Math.Nat.{add-mul, div-eq-sub-div, zero-div}
use Rattle.std.proofs.Math.Seq.{drop-nil, take-nil}
use Rattle.ncc_values.specs.declared.xtype.XType.{XType}
use Rattle.ncc_values.specs.declared.xtype.XType.TheVariants.{Byte, Char, Short, Int, Float, Double, UByte, UShort, UInt, Int64, UInt64}
use Rattle.ncc_values.specs.XType.{size_of}
use Rattle.ncc_slab.specs.Answers.{part_count}
use Rattle.ncc_slab.specs.Stretches.{stretches, part_stretches, stretches_in, all_stretches}

-- ---- sums

sum_shift : (g : ℕ → ℕ) (a n : ℕ) → sum_by g (range_with_len (a + 1) n) ≡ sum_by (λ k. g (k + 1)) (range_with_len a n)
sum_shift g a zero = refl
sum_shift g a (suc n) =
    omega (arith, sum_by-cons g (a + 1) (range_with_len (a + 1 + 1) n), sum_by-cons (λ (k : ℕ). g (k + 1)) a (range_with_len (a + 1) n), sum_shift g (a + 1) n)

sum_same : (g h : ℕ → ℕ) → ((k : ℕ) → g k ≡ h k) → (a n : ℕ) → sum_by g (range_with_len a n) ≡ sum_by h (range_with_len a n)
sum_same g h same a zero = refl
sum_same g h same a (suc n) =
    omega (arith, sum_by-cons g a (range_with_len (a + 1) n), sum_by-cons h a (range_with_len (a + 1) n), same a, sum_same g h same (a + 1) n)

sum_first : (g : ℕ → ℕ) (n : ℕ) → sum_by g (range_with_len 0 (n + 1)) ≡ g 0 + sum_by g (range_with_len 1 n)
sum_first g n =
    let one : n + 1 ≡ suc n = omega arith in
    rw one (sum_by-cons g 0 (range_with_len 1 n))

-- ---- parts

-- a buffer has room for one element at least
pub room_some : (t : XType) → 0 < 65536 / size_of t
room_some Byte = lit< tt
room_some Char = lit< tt
room_some Short = lit< tt
room_some Int = lit< tt
room_some Float = lit< tt
room_some Double = lit< tt
room_some UByte = lit< tt
room_some UShort = lit< tt
room_some UInt = lit< tt
room_some Int64 = lit< tt
room_some UInt64 = lit< tt

module _ (size : ℕ) (some : 0 < 65536 / size) where
  abbrev room : ℕ
  room = 65536 / size

  -- of no places
  none_left : all_stretches size [] ≡ 0
  none_left =
      let parts : length {A = ℕ} [] / room + 1 ≡ 1 = ap (λ (n : ℕ). n + 1) (zero-div room) in
      let part : stretches_in size [] 0 ≡ 0 =
      ap (part_stretches size) (drop-nil (0 * room)) ∙ ap (stretches size) (take-nil (part_count size [])) in
      ap (λ (n : ℕ). sum_by (stretches_in size []) (range_with_len 0 n)) parts ∙ omega (arith, sum_by-cons (stretches_in size []) 0 [], part)

  at_first : (places : List ℕ) → stretches_in size places 0 ≡ part_stretches size places
  at_first places = ap (λ (n : ℕ). part_stretches size (drop n places)) (let none : 0 * room ≡ 0 = omega arith in none)

  -- the first part's, and those of what is left after it
  abbrev Behind : List ℕ → Type 0
  Behind places = part_stretches size places + all_stretches size (drop (part_count size places) places) ≤ all_stretches size places

  by_length : (places : List ℕ) → (length places < room) ⊎ (room ≤ length places) → Behind places
  by_length places (inl short) =
      let count : part_count size places ≡ length places = omega (arith, short) in
      let rest : drop (part_count size places) places ≡ [] = drop_of_length-le places (omega (arith, count)) in
      let nothing : all_stretches size (drop (part_count size places) places) ≡ 0 = ap (all_stretches size) rest ∙ none_left in
      omega (arith, nothing, at_first places, sum_first (stretches_in size places) (length places / room))
  by_length places (inr long) =
      let count : part_count size places ≡ room = omega (arith, long) in
      let rest : List ℕ = drop room places in
      let parts : length places / room ≡ length rest / room + 1 =
      div-eq-sub-div some long ∙ ap (λ (n : ℕ). n / room + 1) (sym (length-drop room places)) in
      let next : (k : ℕ) → stretches_in size places (k + 1) ≡ stretches_in size rest k = λ k.
      ap (part_stretches size) (ap (λ (n : ℕ). drop n places) (let behind : (k + 1) * room ≡ room + k * room = omega (arith, add-mul k 1 room) in behind) ∙ sym (drop-drop (k * room) room places)) in
      let shifted = sum_shift (stretches_in size places) 0 (length places / room) in
      let same = sum_same (λ (k : ℕ). stretches_in size places (k + 1)) (stretches_in size rest) next 0 (length places / room) in
      let all = ap (λ (n : ℕ). sum_by (stretches_in size rest) (range_with_len 0 n)) parts in
      let left = ap (λ (n : ℕ). all_stretches size (drop n places)) count in
      omega (arith, at_first places, sum_first (stretches_in size places) (length places / room), shifted, same, all, left)

  pub first_and_rest : (places : List ℕ) → Behind places
  first_and_rest places = by_length places (cases_lt (length places) room)
