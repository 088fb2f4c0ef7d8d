-- A whole slab: its selection is there, and its bytes lie in one run.
use Rattle.std.proofs.Common.{◌≡◌, ℕ, zero, suc, ◌+◌, ◌*◌, ◌<◌, Bool, true, false, cond, None, Some, List, [], ◌∷◌, ◌++◌, map, take, drop, length, get_or, refl, sym, ap, ◌∙◌, arith}
use Rattle.std.specs.Prelude.{replicate}
use Rattle.std.specs.List.{AllByRecursion, range_with_len}
use Rattle.std.proofs.Math.Nat.{add-mul}
use Rattle.std.proofs.Math.Seq.{take-add}
use Rattle.std.proofs.lemmas.Bool.{lt-ltb}
use Rattle.std.proofs.lemmas.List.{drop-drop, length-replicate}
use Rattle.std.proofs.lemmas.Simd.{map-map}
use Rattle.ncc_values.specs.XType.{size_of}
use Rattle.ncc_layout.specs.declared.placed_var.PlacedVar.{PlacedVar}
use Rattle.ncc_layout.specs.declared.placed_file.Placed.{Placed}
use Rattle.ncc_layout.specs.Sizes.{product}
use Rattle.ncc_layout.specs.Elements.{var_at, no_var, row_major, offset_in, place_of, Inside, IsShaped, HasShape}
use Rattle.ncc_layout.specs.Placed.{record_size_of_file, records_of_file, vars_of, KeepsRules}
use Rattle.ncc_layout.proofs.ShapesInFile.{all_at, has_first}
use Rattle.ncc_slab.specs.declared.slab.Slab.{Slab}
use Rattle.ncc_slab.specs.declared.fault.SlabFault.TheVariants.{NoVariable}
use Rattle.ncc_slab.specs.Refusals.{along, shape_fault, slab_fault, EndsBy, Fits, FitsIn}
use Rattle.ncc_slab.specs.Selected.{bytes_at, bytes_at_places, bytes_of_elements, places_of}
use Rattle.ncc_slab.specs.Selection.{index_lists, index_of, indices_of}
use Rattle.ncc_slab.specs.SlabPlaces.{slab_begin, HasSlab}
use Rattle.ncc_slab.specs.WholeSlabs.{slab_start, slab_count, whole_slab}
use Rattle.ncc_slab.proofs.Fitting.{no_fault}
use Rattle.ncc_slab.proofs.Joined.{same_bytes}
use Rattle.ncc_slab.proofs.Lists.{lists_inside, length-index_lists}
use Rattle.ncc_slab.proofs.Order.{order_is_row_major}
use Rattle.ncc_slab.proofs.Ranges.{map_same}

-- ---- it is there

ends_at_length : (l : ℕ) → EndsBy l 0 l 1
ends_at_length zero = omega arith
ends_at_length (suc n) = omega arith

all_indices_fit : (ls : List ℕ) → AllByRecursion Fits (along ls (replicate (length ls) 0) ls (replicate (length ls) 1))
all_indices_fit [] = tt
all_indices_fit (l ∷ ls) = ((omega arith, ends_at_length l), all_indices_fit ls)

fits_shape : (records size slab number : ℕ) (b : Bool) (ls : List ℕ) → IsShaped records size slab b ls → (b ≡ true → number < records)
    → AllByRecursion Fits (along ls (slab_start b number ls) (slab_count b ls) (replicate (length ls) 1))
fits_shape records size slab number true [] shaped less = absurd shaped
fits_shape records size slab number true (n ∷ ls) shaped less = ((omega arith, omega (arith, shaped.0, less refl)), all_indices_fit ls)
fits_shape records size slab number false ls shaped less = all_indices_fit ls

length-slab_start : (b : Bool) (number : ℕ) (ls : List ℕ) → length (slab_start b number ls) ≡ length ls
length-slab_start true number [] = refl
length-slab_start true number (n ∷ ls) = omega (arith, length-replicate {A = ℕ} (length ls) 0)
length-slab_start false number ls = length-replicate {A = ℕ} (length ls) 0

length-slab_count : (b : Bool) (ls : List ℕ) → length (slab_count b ls) ≡ length ls
length-slab_count true [] = refl
length-slab_count true (n ∷ ls) = refl
length-slab_count false ls = refl

shape_at : (p : Placed) → KeepsRules p → (var : ℕ) → var < length (vars_of p) → HasShape (records_of_file p) (var_at (vars_of p) var)
shape_at p keeps var there = all_at (HasShape (records_of_file p)) (vars_of p) var no_var there keeps.shaped

pub whole_slab_is_there : (p : Placed) → KeepsRules p → (var number : ℕ) → HasSlab p var number
    → slab_fault (vars_of p) var (whole_slab (var_at (vars_of p) var) number) ≡ None
whole_slab_is_there p keeps var number has =
    let x = var_at (vars_of p) var in
    let s = whole_slab x number in
    let fits : FitsIn x.shape s = record {
      starts = length-slab_start x.extent.is_record number x.shape;
      counts = length-slab_count x.extent.is_record x.shape;
      strides = length-replicate {A = ℕ} (length x.shape) 1;
      each = fits_shape (records_of_file p) (size_of x.xtype) x.extent.slab number x.extent.is_record x.shape (shape_at p keeps var has.there) has.in_records;
    } in
    ap (λ (b : Bool). cond b (shape_fault x.shape s) (Some NoVariable)) (lt-ltb var (length (vars_of p)) has.there) ∙ no_fault x.shape s fits

-- ---- the numbers of its index lists

numbered : (f : List ℕ → ℕ) (xs : List (List ℕ)) (a : ℕ) → ((n : ℕ) → n < length xs → f (get_or xs n []) ≡ a + n) → map f xs ≡ range_with_len a (length xs)
numbered f [] a same = refl
numbered f (x ∷ xs) a same =
    let first : f x ≡ a = omega (arith, same 0 (omega arith)) in
    let others : (n : ℕ) → n < length xs → f (get_or xs n []) ≡ a + 1 + n = λ n lt. omega (arith, same (suc n) (omega (arith, lt))) in
    ap (λ (n : ℕ). n ∷ map f xs) first ∙ ap (λ (l : List ℕ). a ∷ l) (numbered f xs (a + 1) others)

numbers_are : (count : List ℕ) → map (row_major count) (index_lists count) ≡ range_with_len 0 (product count)
numbers_are count =
    let long = length-index_lists count in
    numbered (row_major count) (index_lists count) 0 (λ n lt. omega (arith, order_is_row_major count n (omega (arith, lt, long))))
    ∙ ap (range_with_len 0) long

-- ---- the places of its elements

same_index : (ls ks : List ℕ) → Inside ls ks → index_of (replicate (length ls) 0) (replicate (length ls) 1) ks ≡ ks
same_index [] [] inside = refl
same_index [] (k ∷ ks) inside = absurd inside
same_index (l ∷ ls) [] inside = absurd inside
same_index (l ∷ ls) (k ∷ ks) inside =
    let first : 0 + k * 1 ≡ k = omega arith in
    ap (λ (n : ℕ). n ∷ index_of (replicate (length ls) 0) (replicate (length ls) 1) ks) first ∙ ap (λ (l : List ℕ). k ∷ l) (same_index ls ks inside.1)

offset_by_number : (record_size size number : ℕ) (b : Bool) (ls ks : List ℕ) → (b ≡ true → 0 < length ls) → Inside (slab_count b ls) ks
    → offset_in record_size size b ls (index_of (slab_start b number ls) (replicate (length ls) 1) ks) ≡ cond b number 0 * record_size + row_major (slab_count b ls) ks * size
offset_by_number record_size size number true [] ks some inside = absurd (omega (arith, some refl))
offset_by_number record_size size number true (n ∷ ls) [] some inside = absurd inside
offset_by_number record_size size number true (n ∷ ls) (k ∷ ks) some inside =
    let none : k ≡ 0 = omega (arith, inside.0) in
    let record_is : number + k * 1 ≡ number = omega (arith, none) in
    let inner : k * product ls + row_major ls ks ≡ row_major ls ks = omega (arith, ap (λ (m : ℕ). m * product ls) none) in
    ap (λ (m : ℕ). m * record_size + row_major ls (index_of (replicate (length ls) 0) (replicate (length ls) 1) ks) * size) record_is
    ∙ ap (λ (is : List ℕ). number * record_size + row_major ls is * size) (same_index ls ks inside.1)
    ∙ ap (λ (m : ℕ). number * record_size + m * size) (sym inner)
offset_by_number record_size size number false ls ks some inside =
    let still : row_major ls ks * size ≡ 0 * record_size + row_major ls ks * size = omega arith in
    ap (λ (is : List ℕ). row_major ls is * size) (same_index ls ks inside) ∙ still

module _ (record_size : ℕ) (x : PlacedVar) (number : ℕ) (some : x.extent.is_record ≡ true → 0 < length x.shape) where
  abbrev s : Slab
  s = whole_slab x number

  abbrev place : ℕ → ℕ
  place n = slab_begin record_size x number + n * size_of x.xtype

  at : (ks : List ℕ) → Inside s.count ks → place_of record_size x (index_of s.start s.stride ks) ≡ place (row_major s.count ks)
  at ks inside = omega (arith, offset_by_number record_size (size_of x.xtype) number x.extent.is_record x.shape ks some inside)

  slab_places : places_of record_size x s ≡ map place (range_with_len 0 (product s.count))
  slab_places =
      map-map (place_of record_size x) (index_of s.start s.stride) (index_lists s.count)
      ∙ map_same (λ (ks : List ℕ). place_of record_size x (index_of s.start s.stride ks)) (λ (ks : List ℕ). place (row_major s.count ks)) (Inside s.count) at (index_lists s.count) (lists_inside s.count)
      ∙ sym (map-map place (row_major s.count) (index_lists s.count))
      ∙ ap (map place) (numbers_are s.count)

-- ---- its bytes

-- those of elements that lie one after the other, from the a-th on
run_bytes : (file : List ℕ) (begin size a n : ℕ) → bytes_at_places file size (map (λ (k : ℕ). begin + k * size) (range_with_len a n)) ≡ bytes_at file (begin + a * size) (n * size)
run_bytes file begin size a zero =
    let none : 0 ≡ zero * size = omega arith in
    ap (bytes_at file (begin + a * size)) none
run_bytes file begin size a (suc n) =
    let next : begin + (a + 1) * size ≡ begin + a * size + size = omega (arith, add-mul a 1 size) in
    let all : size + n * size ≡ suc n * size = omega arith in
    let from = drop (begin + a * size) file in
    ap (λ (l : List ℕ). bytes_at file (begin + a * size) size ++ l) (run_bytes file begin size (a + 1) n)
    ∙ ap (λ (m : ℕ). bytes_at file (begin + a * size) size ++ bytes_at file m (n * size)) next
    ∙ ap (λ (l : List ℕ). take size from ++ take (n * size) l) (sym (drop-drop size (begin + a * size) file))
    ∙ sym (take-add size (n * size) from)
    ∙ ap (λ (m : ℕ). take m from) all

slab_size : (records size slab : ℕ) (b : Bool) (ls : List ℕ) → IsShaped records size slab b ls → product (slab_count b ls) * size ≡ slab
slab_size records size slab true [] shaped = absurd shaped
slab_size records size slab true (n ∷ ls) shaped =
    let one : 1 * product ls ≡ product ls = omega arith in
    ap (λ (m : ℕ). m * size) one ∙ sym shaped.1
slab_size records size slab false ls shaped = sym shaped

pub whole_slab_adjoins : (p : Placed) → KeepsRules p → (file : List ℕ) (var number : ℕ) → HasSlab p var number
    → bytes_of_elements file (record_size_of_file p) (var_at (vars_of p) var) (indices_of (whole_slab (var_at (vars_of p) var) number))
    ≡ bytes_at file (slab_begin (record_size_of_file p) (var_at (vars_of p) var) number) (var_at (vars_of p) var).extent.slab
whole_slab_adjoins p keeps file var number has =
    let x = var_at (vars_of p) var in
    let record_size = record_size_of_file p in
    let size = size_of x.xtype in
    let begin = slab_begin record_size x number in
    let count = slab_count x.extent.is_record x.shape in
    let still : begin + 0 * size ≡ begin = omega arith in
    sym (same_bytes file record_size x (indices_of (whole_slab x number)))
    ∙ ap (bytes_at_places file size) (slab_places record_size x number (has_first p keeps var has.there))
    ∙ run_bytes file begin size 0 (product count)
    ∙ ap (λ (place : ℕ). bytes_at file place (product count * size)) still
    ∙ ap (bytes_at file begin) (slab_size (records_of_file p) size x.extent.slab x.extent.is_record x.shape (shape_at p keeps var has.there))
