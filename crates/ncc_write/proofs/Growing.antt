-- What is written more when elements of the next slab are taken.
use Rattle.std.proofs.Common.{◌≡◌, ℕ, ◌+◌, ◌-◌, ◌*◌, ◌<◌, ◌≤◌, Bool, true, false, List, [], ◌∷◌, ◌++◌, length, take, drop, Some, refl, sym, ap, ap₂, subst, ◌∙◌, arith, length-append, length-drop}
use Rattle.std.specs.Prelude.{ltb, sum_by, ◌/◌, ◌%◌, if◌then◌else◌}
use Rattle.std.proofs.lemmas.Bool.{ltb-true, ltb-false, le-ltb, lt-ltb}
use Rattle.std.proofs.lemmas.List.{append_assoc, append-nil, take_all, drop_all}
use Rattle.std.proofs.lemmas.List.Sums.{sum_by-cons}
use Rattle.ncc_values.specs.Padding.{padding_of}
use Rattle.ncc_values.specs.XType.{size_of}
use Rattle.ncc_values.specs.declared.xtype.XType.{XType}
use Rattle.ncc_values.specs.declared.xtype.XType.TheVariants.{Byte, Char, Short, Int, Float, Double, UByte, UShort, UInt, Int64, UInt64}
use Rattle.ncc_schema.specs.declared.schema.Schema.{Schema}
use Rattle.ncc_layout.specs.Sizes.{slab}
use Rattle.ncc_build.specs.Fill.{fills}
use Rattle.ncc_build.specs.Dataset.{Slab, elements, slabs_of}
use Rattle.ncc_build.specs.File.{is_lone, padding_bytes, header_of}
use Rattle.ncc_write.specs.Writing.{Next, next_in, next_of, part_in, IsWhole, laid_in, written, grown, Grows}
use Rattle.ncc_write.proofs.Ending.{choice, here, next_behind}
use Rattle.ncc_write.proofs.Fronts.{laid_by, laid_few, laid_more}

-- ---- sizes of elements

pub by_size : (P : ℕ → Type 0) → P 1 → P 2 → P 4 → P 8 → (t : XType) → P (size_of t)
by_size P a b c d Byte = a
by_size P a b c d Char = a
by_size P a b c d Short = b
by_size P a b c d Int = c
by_size P a b c d Float = c
by_size P a b c d Double = d
by_size P a b c d UByte = a
by_size P a b c d UShort = b
by_size P a b c d UInt = c
by_size P a b c d Int64 = d
by_size P a b c d UInt64 = d

-- so many elements are left of e when n bytes were taken
abbrev LeftAre : ℕ → Type 0
LeftAre w = (e n : ℕ) → n % w ≡ 0 → (e * w - n) / w * w ≡ e * w - n

left_are : (t : XType) → LeftAre (size_of t)
left_are t = by_size LeftAre (λ e n h. omega (arith, h)) (λ e n h. omega (arith, h)) (λ e n h. omega (arith, h))
    (λ e n h. omega (arith, h)) t

abbrev LeftAfter : ℕ → Type 0
LeftAfter w = (e n k : ℕ) → n % w ≡ 0 → k ≤ (e * w - n) / w → (e * w - (n + k * w)) / w ≡ (e * w - n) / w - k

left_after : (t : XType) → LeftAfter (size_of t)
left_after t = by_size LeftAfter (λ e n k h le. omega (arith, h, le)) (λ e n k h le. omega (arith, h, le))
    (λ e n k h le. omega (arith, h, le)) (λ e n k h le. omega (arith, h, le)) t

abbrev WholeAfter : ℕ → Type 0
WholeAfter w = (n k : ℕ) → n % w ≡ 0 → (n + k * w) % w ≡ 0

whole_after : (t : XType) → WholeAfter (size_of t)
whole_after t = by_size WholeAfter (λ n k h. omega (arith, h)) (λ n k h. omega (arith, h))
    (λ n k h. omega (arith, h)) (λ n k h. omega (arith, h)) t

abbrev pub Filled : ℕ → Type 0
Filled w = (e n k : ℕ) → n % w ≡ 0 → n < e * w → ((k < (e * w - n) / w → n + k * w < e * w) ×
    (k ≡ (e * w - n) / w → n + k * w ≡ e * w))

pub filled : (t : XType) → Filled (size_of t)
filled t = by_size Filled (λ e n k h less. (λ few. omega (arith, h, less, few), λ all. omega (arith, h, less, all)))
    (λ e n k h less. (λ few. omega (arith, h, less, few), λ all. omega (arith, h, less, all)))
    (λ e n k h less. (λ few. omega (arith, h, less, few), λ all. omega (arith, h, less, all)))
    (λ e n k h less. (λ few. omega (arith, h, less, few), λ all. omega (arith, h, less, all))) t

-- ---- nothing taken

-- a slab without bytes has no padding
padding_by : (n : ℕ) (lone : Bool) → n ≡ 0 → (if lone then 0 else padding_of n) ≡ 0
padding_by n true none = refl
padding_by n false none = ap padding_of none

no_padding : (s : Schema) (b : Slab) → slab s.dims b.var ≡ 0 → padding_bytes s b.var ≡ []
no_padding s b none =
    ap (λ (n : ℕ). fills (n / size_of b.var.xtype) b.var) (padding_by (slab s.dims b.var) (is_lone s b.var) none)
    ∙ by_size (λ w. fills (0 / w) b.var ≡ []) refl refl refl refl b.var.xtype

nothing_by : (s : Schema) (b : Slab) (slabs : List Slab) (few : Bool) → ltb 0 (slab s.dims b.var) ≡ few
    → laid_in s slabs [] ≡ [] → laid_by s b slabs [] few ≡ []
nothing_by s b slabs true is rest = refl
nothing_by s b slabs false is rest =
    let size = slab s.dims b.var in
    let none : size ≡ 0 = omega (arith, ltb-false 0 size is) in
    ap (λ (n : ℕ). take n [] ++ padding_bytes s b.var ++ laid_in s slabs (drop n [])) none
    ∙ ap (λ (l : List ℕ). l ++ laid_in s slabs []) (no_padding s b none) ∙ rest

pub laid_nothing : (s : Schema) (slabs : List Slab) → laid_in s slabs [] ≡ []
laid_nothing s [] = refl
laid_nothing s (b ∷ slabs) = nothing_by s b slabs (ltb 0 (slab s.dims b.var)) refl (laid_nothing s slabs)

abbrev pub part_by : Schema → Slab → List Slab → ℕ → Bool → ℕ
part_by s b slabs n few = if few then n % size_of b.var.xtype else part_in s slabs (n - slab s.dims b.var)

part_is : (s : Schema) (b : Slab) (slabs : List Slab) (n : ℕ) (few : Bool) → ltb n (slab s.dims b.var) ≡ few
    → part_in s (b ∷ slabs) n ≡ part_by s b slabs n few
part_is s b slabs n few is = ap (part_by s b slabs n) is

no_part_by : (s : Schema) (b : Slab) (slabs : List Slab) (few : Bool) → part_in s slabs 0 ≡ 0
    → part_by s b slabs 0 few ≡ 0
no_part_by s b slabs true rest = by_size (λ w. 0 % w ≡ 0) refl refl refl refl b.var.xtype
no_part_by s b slabs false rest =
    let none : 0 - slab s.dims b.var ≡ 0 = omega arith in
    ap (part_in s slabs) none ∙ rest

no_part : (s : Schema) (slabs : List Slab) → part_in s slabs 0 ≡ 0
no_part s [] = refl
no_part s (b ∷ slabs) = no_part_by s b slabs (ltb 0 (slab s.dims b.var)) (no_part s slabs)

-- ---- in these slabs

pub record Grown (s : Schema) (slabs : List Slab) (taken bytes : List ℕ) (k : ℕ) (n : Next) : Type 0 where
  whole : part_in s slabs (length (taken ++ bytes)) ≡ 0
  laid : laid_in s slabs (taken ++ bytes) ≡ grown s n (laid_in s slabs taken) bytes k
  within : length (taken ++ bytes) ≤ sum_by (λ c. slab s.dims c.var) slabs
  next_is : k < n.left → next_in s slabs (length (taken ++ bytes)) ≡ Some (record { slab = n.slab; left = n.left - k })

abbrev grown_by : Schema → Slab → (old bytes : List ℕ) → Bool → List ℕ
grown_by s b old bytes few = if few then old ++ bytes else old ++ bytes ++ padding_bytes s b.var

grown_behind : (s : Schema) (b : Slab) (head old bytes : List ℕ) (few : Bool)
    → head ++ grown_by s b old bytes few ≡ grown_by s b (head ++ old) bytes few
grown_behind s b head old bytes true = sym (append_assoc head old bytes)
grown_behind s b head old bytes false = sym (append_assoc head (old ++ bytes) (padding_bytes s b.var))
    ∙ ap (λ (l : List ℕ). l ++ padding_bytes s b.var) (sym (append_assoc head old bytes))

-- of the first slab
module _ (s : Schema) (b : Slab) (slabs : List Slab) (taken bytes : List ℕ) (k : ℕ)
    (less : length taken < slab s.dims b.var) (whole : length taken % size_of b.var.xtype ≡ 0)
    (long : length bytes ≡ k * size_of b.var.xtype) where
  abbrev left : ℕ
  left = (slab s.dims b.var - length taken) / size_of b.var.xtype

  total : length (taken ++ bytes) ≡ length taken + k * size_of b.var.xtype
  total = length-append taken bytes ∙ ap (λ (m : ℕ). length taken + m) long

  few_more : k < left → length (taken ++ bytes) < slab s.dims b.var
  few_more few = omega (arith, total, (filled b.var.xtype (elements s.dims b.var) (length taken) k whole less).0 few)

  all_more : k ≡ left → length (taken ++ bytes) ≡ slab s.dims b.var
  all_more all = total ∙ (filled b.var.xtype (elements s.dims b.var) (length taken) k whole less).1 all

  first_laid : (few : Bool) → ltb k left ≡ few → k ≤ left
      → laid_in s (b ∷ slabs) (taken ++ bytes) ≡ grown_by s b taken bytes few
  first_laid true is room = laid_few s b slabs (taken ++ bytes) true
      (lt-ltb (length (taken ++ bytes)) (slab s.dims b.var) (few_more (ltb-true k left is)))
  first_laid false is room =
      let size = slab s.dims b.var in
      let all = all_more (omega (arith, room, ltb-false k left is)) in
      laid_few s b slabs (taken ++ bytes) false (le-ltb (length (taken ++ bytes)) size (omega (arith, all)))
      ∙ ap₂ (λ (x y : List ℕ). x ++ padding_bytes s b.var ++ laid_in s slabs y)
      (take_all size (taken ++ bytes) (omega (arith, all))) (drop_all size (taken ++ bytes) (omega (arith, all)))
      ∙ ap (λ (l : List ℕ). taken ++ bytes ++ padding_bytes s b.var ++ l) (laid_nothing s slabs)
      ∙ append-nil (taken ++ bytes ++ padding_bytes s b.var)

  first_whole : (few : Bool) → ltb k left ≡ few → k ≤ left → part_in s (b ∷ slabs) (length (taken ++ bytes)) ≡ 0
  first_whole true is room =
      part_is s b slabs (length (taken ++ bytes)) true (lt-ltb (length (taken ++ bytes)) (slab s.dims b.var)
      (few_more (ltb-true k left is)))
      ∙ ap (λ (m : ℕ). m % size_of b.var.xtype) total ∙ whole_after b.var.xtype (length taken) k whole
  first_whole false is room =
      let size = slab s.dims b.var in
      let all = all_more (omega (arith, room, ltb-false k left is)) in
      let none : length (taken ++ bytes) - size ≡ 0 = omega (arith, all) in
      part_is s b slabs (length (taken ++ bytes)) false (le-ltb (length (taken ++ bytes)) size (omega (arith, all)))
      ∙ ap (part_in s slabs) none ∙ no_part s slabs

  abbrev next_with : ℕ → Next
  next_with m = record { slab = b; left = m }

  first_next : k ≤ left → k < left → next_in s (b ∷ slabs) (length (taken ++ bytes)) ≡ Some (next_with (left - k))
  first_next room few =
      let size = slab s.dims b.var in
      ap (λ (t : Bool). choice t (here s b (length (taken ++ bytes)))
      (next_in s slabs (length (taken ++ bytes) - size))) (lt-ltb (length (taken ++ bytes)) size (few_more few))
      ∙ ap (λ (m : ℕ). Some (next_with ((size - m) / size_of b.var.xtype))) total
      ∙ ap (λ (m : ℕ). Some (next_with m)) (left_after b.var.xtype (elements s.dims b.var) (length taken) k whole room)

  first_within : (few : Bool) → ltb k left ≡ few → k ≤ left → length (taken ++ bytes) ≤ slab s.dims b.var
  first_within true is room = omega (arith, few_more (ltb-true k left is))
  first_within false is room = omega (arith, all_more (omega (arith, room, ltb-false k left is)))

  first_grown : k ≤ left → ltb (length taken) (slab s.dims b.var) ≡ true
      → Grown s (b ∷ slabs) taken bytes k (here s b (length taken))
  first_grown room is = record {
    whole = first_whole (ltb k left) refl room;
    laid = first_laid (ltb k left) refl room ∙ ap (λ (l : List ℕ). grown_by s b l bytes (ltb k left))
        (sym (laid_few s b slabs taken true is));
    within = omega (arith, first_within (ltb k left) refl room, sum_by-cons (λ (c : Slab). slab s.dims c.var) b slabs);
    next_is = first_next room;
  }

-- after a slab that is full
module _ (s : Schema) (b : Slab) (slabs : List Slab) (taken bytes : List ℕ) (k : ℕ) (n : Next)
    (enough : slab s.dims b.var ≤ length taken) where
  abbrev size : ℕ
  size = slab s.dims b.var

  behind : length (taken ++ bytes) - size ≡ length (drop size taken ++ bytes)
  behind = omega (
    arith,
    enough,
    length-append taken bytes,
    length-append (drop size taken) bytes,
    length-drop size taken,
  )

  long_enough : size ≤ length (taken ++ bytes)
  long_enough = omega (arith, enough, length-append taken bytes)

  later_grown : Grown s slabs (drop size taken) bytes k n → Grown s (b ∷ slabs) taken bytes k n
  later_grown g =
      let head = take size taken ++ padding_bytes s b.var in
      let old = laid_in s slabs (drop size taken) in
      record {
        whole = part_is s b slabs (length (taken ++ bytes)) false (le-ltb (length (taken ++ bytes)) size long_enough)
            ∙ ap (part_in s slabs) behind ∙ g.whole;
        laid =
            laid_more s b slabs taken bytes enough ∙ ap (λ (l : List ℕ). head ++ l) g.laid
            ∙ grown_behind s n.slab head old bytes (ltb k n.left)
            ∙ ap (λ (l : List ℕ). grown_by s n.slab l bytes (ltb k n.left))
            (sym (laid_few s b slabs taken false (le-ltb (length taken) size enough)));
        within = omega (
          arith,
          g.within,
          enough,
          length-append taken bytes,
          length-append (drop size taken) bytes,
          length-drop size taken,
          sum_by-cons (λ (c : Slab). slab s.dims c.var) b slabs,
        );
        next_is = λ few. next_behind s b slabs (length (taken ++ bytes)) long_enough ∙ ap (next_in s slabs) behind
            ∙ g.next_is few;
      }

-- ---- in all slabs

abbrev GrowsIn : Schema → List Slab → (taken bytes : List ℕ) → (k : ℕ) → Next → Type 0
GrowsIn s slabs taken bytes k n = length bytes ≡ k * size_of n.slab.var.xtype → k ≤ n.left
    → Grown s slabs taken bytes k n

grows_by : (s : Schema) (b : Slab) (slabs : List Slab) (taken bytes : List ℕ) (k : ℕ) (n : Next) (few : Bool)
    → ltb (length taken) (slab s.dims b.var) ≡ few
    → choice few (here s b (length taken)) (next_in s slabs (length taken - slab s.dims b.var)) ≡ Some n
    → part_by s b slabs (length taken) few ≡ 0
    → (next_in s slabs (length (drop (slab s.dims b.var) taken)) ≡ Some n
    → part_in s slabs (length (drop (slab s.dims b.var) taken)) ≡ 0
    → GrowsIn s slabs (drop (slab s.dims b.var) taken) bytes k n)
    → GrowsIn s (b ∷ slabs) taken bytes k n
grows_by s b slabs taken bytes k n true is next whole later =
    let same : here s b (length taken) ≡ n = cc in
    subst (GrowsIn s (b ∷ slabs) taken bytes k) same (λ long room. first_grown s b slabs taken bytes k
    (ltb-true (length taken) (slab s.dims b.var) is) whole long room is)
grows_by s b slabs taken bytes k n false is next whole later =
    let size = slab s.dims b.var in
    let drops = length-drop size taken in
    λ long room. later_grown s b slabs taken bytes k n (ltb-false (length taken) size is)
    (later (ap (next_in s slabs) drops ∙ next) (ap (part_in s slabs) drops ∙ whole) long room)

grows_in : (s : Schema) (slabs : List Slab) (taken bytes : List ℕ) (k : ℕ) (n : Next)
    → next_in s slabs (length taken) ≡ Some n → part_in s slabs (length taken) ≡ 0 → GrowsIn s slabs taken bytes k n
grows_in s [] taken bytes k n next whole = absurd cc
grows_in s (b ∷ slabs) taken bytes k n next whole =
    grows_by s b slabs taken bytes k n (ltb (length taken) (slab s.dims b.var)) refl next whole
    (grows_in s slabs (drop (slab s.dims b.var) taken) bytes k n)

pub grows : (s : Schema) (taken bytes : List ℕ) (k : ℕ) (n : Next) → IsWhole s taken → next_of s taken ≡ Some n
    → length bytes ≡ k * size_of n.slab.var.xtype → k ≤ n.left → Grows s taken bytes k n
grows s taken bytes k n whole next long room =
    let g = grows_in s (slabs_of s) taken bytes k n next whole long room in
    record {
      whole = g.whole;
      written_is = ap (λ (l : List ℕ). header_of s ++ l) g.laid
          ∙ grown_behind s n.slab (header_of s) (laid_in s (slabs_of s) taken) bytes (ltb k n.left);
      within = g.within;
      next_is = g.next_is;
    }

pub nothing_is_whole : (s : Schema) → IsWhole s []
nothing_is_whole s = no_part s (slabs_of s)

pub written_first : (s : Schema) → written s [] ≡ header_of s
written_first s = ap (λ (l : List ℕ). header_of s ++ l) (laid_nothing s (slabs_of s)) ∙ append-nil (header_of s)
