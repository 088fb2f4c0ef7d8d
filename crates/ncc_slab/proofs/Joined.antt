-- Parts of values, one after the other.
use Rattle.std.proofs.Common.{◌≡◌, ℕ, zero, suc, ◌+◌, ◌-◌, ◌*◌, ◌/◌, ◌<◌, ◌≤◌, min, List, [], ◌∷◌, ◌++◌, map, take, drop, length, refl, sym, ap, subst, ◌∙◌, lit<, arith}
use Rattle.std.specs.List.{range_with_len}
use Rattle.std.proofs.lemmas.List.{length-append, length-take}
use Rattle.std.proofs.lemmas.List.FromFn.{length-map-range_with_len}
use Rattle.std.proofs.lemmas.List.Folds.{flat_map-map}
use Rattle.std.proofs.lemmas.Grind.{flat_map-append}
use Rattle.std.proofs.Math.Seq.{take-add}
use Rattle.std.proofs.Math.Nat.{add-mul}
use Rattle.ncc_values.specs.declared.values.Values.{Values}
use Rattle.ncc_values.specs.declared.xtype.XType.{XType}
use Rattle.ncc_values.specs.declared.xtype.XType.TheVariants.{Byte, Char, Short, Int, Float, Double, UByte, UShort, UInt, Int64, UInt64}
use Rattle.ncc_values.specs.XType.{size_of}
use Rattle.ncc_values.specs.Values.{type_of, no_values, with_bytes, values_of}
use Rattle.ncc_values.proofs.ValuesLemmas.{with_bytes-append, with_bytes-nil}
use Rattle.ncc_layout.specs.declared.placed_var.PlacedVar.{PlacedVar}
use Rattle.ncc_layout.specs.Elements.{place_of}
use Rattle.ncc_slab.specs.declared.slab.Slab.{Slab}
use Rattle.ncc_slab.specs.Selection.{indices_of}
use Rattle.ncc_slab.specs.Selected.{bytes_at, bytes_at_places, bytes_of_elements, AddsPlaces, Selected, places_of}
use Rattle.ncc_slab.specs.Laws.{AreWhole}
use Rattle.ncc_slab.proofs.Ranges.{drop-map-range}

-- no places add nothing
pub no_part : (file : List ℕ) (size : ℕ) (v : Values) → AddsPlaces file size [] v v
no_part file size v = record { is = sym (with_bytes-nil v); whole = let zeroed : 0 ≡ 0 * size = omega arith in zeroed }

-- a part, and after it the next one, are one part
pub places_join : (file : List ℕ) (size : ℕ) (ps qs : List ℕ) (old mid new : Values) → size_of (type_of old) ≡ size
    → AddsPlaces file size ps old mid → AddsPlaces file size qs mid new → AddsPlaces file size (ps ++ qs) old new
places_join file size ps qs old mid new sized one two =
    let a = bytes_at_places file size ps in
    let b = bytes_at_places file size qs in
    let joined : bytes_at_places file size (ps ++ qs) ≡ a ++ b = flat_map-append (λ (place : ℕ). bytes_at file place size) ps qs in
    record {
      is = two.is ∙ ap (λ (v : Values). with_bytes v b) one.is
          ∙ sym (with_bytes-append old (length ps) (length qs) a b (one.whole ∙ ap (λ (n : ℕ). length ps * n) (sym sized)) (two.whole ∙ ap (λ (n : ℕ). length qs * n) (sym sized)))
          ∙ ap (with_bytes old) (sym joined);
      whole = ap length joined ∙ length-append a b ∙ omega (arith, one.whole, two.whole, length-append ps qs, add-mul (length ps) (length qs) size, ap (λ (n : ℕ). n * size) (length-append ps qs));
    }

-- ---- along a run of places

pub next_part : (file : List ℕ) (size : ℕ) (f : ℕ → ℕ) (count taken n : ℕ) (old mid new : Values) → size_of (type_of old) ≡ size
    → AddsPlaces file size (take taken (map f (range_with_len 0 count))) old mid
    → AddsPlaces file size (take n (map f (range_with_len taken (count - taken)))) mid new
    → AddsPlaces file size (take (taken + n) (map f (range_with_len 0 count))) old new
next_part file size f count taken n old mid new sized one two =
    let all = map f (range_with_len 0 count) in
    let behind : map f (range_with_len taken (count - taken)) ≡ drop taken all = sym (drop-map-range f taken 0 count taken (omega arith)) in
    let joined : take taken all ++ take n (map f (range_with_len taken (count - taken))) ≡ take (taken + n) all =
    ap (λ (l : List ℕ). take taken all ++ take n l) behind ∙ sym (take-add taken n all) in
    subst (λ (places : List ℕ). AddsPlaces file size places old new) joined
    (places_join file size (take taken all) (take n (map f (range_with_len taken (count - taken)))) old mid new sized one two)

take_all : {A : Type 0} (xs : List A) (n : ℕ) → length xs ≡ n → take n xs ≡ xs
take_all [] zero e = refl
take_all [] (suc n) e = refl
take_all (x ∷ xs) zero e = absurd (omega (arith, e))
take_all (x ∷ xs) (suc n) e = ap (λ l. x ∷ l) (take_all xs n (omega (arith, e)))

pub all_taken : (file : List ℕ) (size : ℕ) (f : ℕ → ℕ) (count taken : ℕ) (old new : Values) → taken ≡ count
    → AddsPlaces file size (take taken (map f (range_with_len 0 count))) old new → AddsPlaces file size (map f (range_with_len 0 count)) old new
all_taken file size f count taken old new done part =
    subst (λ (places : List ℕ). AddsPlaces file size places old new)
    (take_all (map f (range_with_len 0 count)) taken (length-map-range_with_len f 0 count ∙ sym done)) part

-- ---- a part isn't empty

pub room_some : (t : XType) → 0 < 65536 / size_of t
room_some Byte = lit< tt
room_some Char = lit< tt
room_some Short = lit< tt
room_some Int = lit< tt
room_some Float = lit< tt
room_some Double = lit< tt
room_some UByte = lit< tt
room_some UShort = lit< tt
room_some UInt = lit< tt
room_some Int64 = lit< tt
room_some UInt64 = lit< tt

pub part_bounds : (f : ℕ → ℕ) (taken left n : ℕ) (t : XType) → n ≡ min (length (map f (range_with_len taken left))) (65536 / size_of t) → (n ≤ left) × (0 < left → 0 < n)
part_bounds f taken left n t is =
    let long = length-map-range_with_len f taken left in
    let room = room_some t in
    (omega (arith, is, long), λ some. omega (arith, is, long, room))

-- ---- a selection

-- the bytes at the places of elements are those of the elements
pub same_bytes : (file : List ℕ) (record_size : ℕ) (x : PlacedVar) (indices : List (List ℕ))
    → bytes_at_places file (size_of x.xtype) (map (place_of record_size x) indices) ≡ bytes_of_elements file record_size x indices
same_bytes file record_size x indices = flat_map-map (λ (place : ℕ). bytes_at file place (size_of x.xtype)) (place_of record_size x) indices

pub all_selected : (file : List ℕ) (record_size : ℕ) (x : PlacedVar) (s : Slab) (values : Values)
    → AddsPlaces file (size_of x.xtype) (places_of record_size x s) (no_values x.xtype) values → Selected file record_size x s values
all_selected file record_size x s values part = part.is ∙ ap (values_of x.xtype) (same_bytes file record_size x (indices_of s))

-- ---- all bytes are there

most : (file : List ℕ) (place size : ℕ) → length (bytes_at file place size) ≤ size
most file place size = omega (arith, length-take size (drop place file))

at_most : (file : List ℕ) (size : ℕ) (places : List ℕ) → length (bytes_at_places file size places) ≤ length places * size
at_most file size [] = omega arith
at_most file size (p ∷ places) =
    omega (arith, length-append (bytes_at file p size) (bytes_at_places file size places), most file p size, at_most file size places, add-mul 1 (length places) size)

pub each_whole : (file : List ℕ) (record_size : ℕ) (x : PlacedVar) (indices : List (List ℕ))
    → length (bytes_at_places file (size_of x.xtype) (map (place_of record_size x) indices)) ≡ length (map (place_of record_size x) indices) * size_of x.xtype → AreWhole file record_size x indices
each_whole file record_size x [] whole = tt
each_whole file record_size x (i ∷ indices) whole =
    let size = size_of x.xtype in
    let here = bytes_at file (place_of record_size x i) size in
    let others = map (place_of record_size x) indices in
    let first = most file (place_of record_size x i) size in
    let rest = at_most file size others in
    let long = length-append here (bytes_at_places file size others) in
    let sum = add-mul 1 (length others) size in
    (omega (arith, whole, first, rest, long, sum), each_whole file record_size x indices (omega (arith, whole, first, rest, long, sum)))
