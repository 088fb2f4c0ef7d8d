-- Parts of a selection, by the places of their elements.
use Rattle.std.proofs.Common.{◌≡◌, ◌↔◌, ℕ, suc, ◌+◌, ◌-◌, ◌*◌, ◌<◌, ◌≤◌, None, ltb, List, [], ◌∷◌, map, take, drop, length, get_or, sym, ap, subst, ◌∙◌, arith}
use Rattle.std.specs.List.{AllByRecursion}
use Rattle.std.proofs.lemmas.Bool.{ltb-true}
use Rattle.std.proofs.lemmas.List.{length-map, length-drop, drop-map, take-map, drop-drop, nil_from_length}
use Rattle.std.proofs.lemmas.Nat.{mul-le}
use Rattle.ncc_values.specs.declared.values.Values.{Values}
use Rattle.ncc_values.specs.declared.values.Values.TheVariants.{Bytes, Chars, Shorts, Ints, Floats, Doubles, UBytes, UShorts, UInts, Int64s, UInt64s}
use Rattle.ncc_values.specs.declared.xtype.XType.{XType}
use Rattle.ncc_values.specs.XType.{size_of}
use Rattle.ncc_values.specs.Values.{type_of, count_of, no_values, with_bytes}
use Rattle.ncc_layout.specs.declared.placed_var.PlacedVar.{PlacedVar}
use Rattle.ncc_layout.specs.declared.placed_file.Placed.{Placed}
use Rattle.ncc_layout.specs.Elements.{var_at, place_of}
use Rattle.ncc_layout.specs.Placed.{file_length_of, vars_of, KeepsRules}
use Rattle.ncc_layout.specs.Sizes.{product}
use Rattle.ncc_layout.proofs.ShapesInFile.{shape_in_file}
use Rattle.ncc_slab.specs.declared.slab.Slab.{Slab}
use Rattle.ncc_slab.specs.declared.fault.SlabFault.TheVariants.{NoVariable}
use Rattle.ncc_slab.specs.Answers.{part_count, TakesPart}
use Rattle.ncc_slab.specs.Laws.{AreWhole}
use Rattle.ncc_slab.specs.Refusals.{shape_fault, slab_fault}
use Rattle.ncc_slab.specs.Selection.{indices_of, selected_count}
use Rattle.ncc_slab.specs.Selected.{element_bytes, number_at, numbers_of, bytes_of_elements, part_of, places_of, AddsPart, AddsPlaces}
use Rattle.ncc_slab.proofs.Counts.{selects_at_most_all}
use Rattle.ncc_slab.proofs.Fitting.{if_none}
use Rattle.ncc_slab.proofs.Joined.{same_bytes, each_whole, room_some}
use Rattle.ncc_slab.proofs.Numbers.{numbers_are_there}
use Rattle.ncc_slab.proofs.ValueParts.{length_whole}
use Rattle.ncc_values.proofs.ElementsLemmas.{size_of-some}

-- ---- the places of a part

pub places_counted : (record_size : ℕ) (x : PlacedVar) (s : Slab) → length (places_of record_size x s) ≡ selected_count s
places_counted record_size x s = length-map (indices_of s) (place_of record_size x)

pub part_places : (record_size : ℕ) (x : PlacedVar) (s : Slab) (first n : ℕ) → take n (drop first (places_of record_size x s)) ≡ map (place_of record_size x) (part_of s first n)
part_places record_size x s first n =
    ap (take n) (drop-map (place_of record_size x) first (indices_of s)) ∙ take-map (place_of record_size x) n (drop first (indices_of s))

-- ---- the values of a part

module _ (file : List ℕ) (record_size : ℕ) (x : PlacedVar) (s : Slab) (first n : ℕ) (old new : Values) where
  abbrev part : List (List ℕ)
  part = part_of s first n

  abbrev ByPlaces : List ℕ → Type 0
  ByPlaces places = AddsPlaces file (size_of x.xtype) places old new

  to_part : ByPlaces (map (place_of record_size x) part) → AddsPart file record_size x s first n old new × AreWhole file record_size x part
  to_part adds = (adds.is ∙ ap (with_bytes old) (same_bytes file record_size x part), each_whole file record_size x part adds.whole)

  from_part : AddsPart file record_size x s first n old new → AreWhole file record_size x part → ByPlaces (map (place_of record_size x) part)
  from_part adds whole = record {
    is = adds ∙ ap (with_bytes old) (sym (same_bytes file record_size x part));
    whole = ap length (same_bytes file record_size x part) ∙ length_whole (element_bytes file record_size x) (size_of x.xtype) part whole
        ∙ ap (λ (m : ℕ). m * size_of x.xtype) (sym (length-map part (place_of record_size x)));
  }

  pub places_add_part : ByPlaces (take n (drop first (places_of record_size x s))) ↔ (AddsPart file record_size x s first n old new × AreWhole file record_size x part)
  places_add_part =
      let same = part_places record_size x s first n in (
        λ adds. to_part (subst ByPlaces same adds),
        λ both. subst ByPlaces (sym same) (from_part both.0 both.1),
      )

empty_values : (v : Values) → count_of v ≡ 0 → v ≡ no_values (type_of v)
empty_values (Bytes items) none = ap Bytes (nil_from_length items none)
empty_values (Chars items) none = ap Chars (nil_from_length items none)
empty_values (Shorts items) none = ap Shorts (nil_from_length items none)
empty_values (Ints items) none = ap Ints (nil_from_length items none)
empty_values (Floats items) none = ap Floats (nil_from_length items none)
empty_values (Doubles items) none = ap Doubles (nil_from_length items none)
empty_values (UBytes items) none = ap UBytes (nil_from_length items none)
empty_values (UShorts items) none = ap UShorts (nil_from_length items none)
empty_values (UInts items) none = ap UInts (nil_from_length items none)
empty_values (Int64s items) none = ap Int64s (nil_from_length items none)
empty_values (UInt64s items) none = ap UInt64s (nil_from_length items none)

pub part_numbers : (file : List ℕ) (record_size : ℕ) (x : PlacedVar) (s : Slab) (first n : ℕ) (old new : Values) → type_of old ≡ x.xtype → count_of old ≡ 0
    → AddsPlaces file (size_of x.xtype) (take n (drop first (places_of record_size x s))) old new
    → numbers_of new ≡ map (number_at file record_size x) (part_of s first n)
part_numbers file record_size x s first n old new of none adds =
    let both = (places_add_part file record_size x s first n old new).0 adds in
    let part = part_of s first n in
    let empty : old ≡ no_values x.xtype = empty_values old none ∙ ap no_values of in
    ap numbers_of (both.0 ∙ ap (λ (v : Values). with_bytes v (bytes_of_elements file record_size x part)) empty)
    ∙ numbers_are_there file record_size x part both.1

-- ---- part after part

pub parts_go_on : (record_size : ℕ) (x : PlacedVar) (s : Slab) (size first n : ℕ) (old new : List ℕ) → first ≤ selected_count s → old ≡ drop first (places_of record_size x s)
    → TakesPart size old new n → (first + n ≤ selected_count s) × (new ≡ drop (first + n) (places_of record_size x s))
parts_go_on record_size x s size first n old new le is takes =
    let long : length old ≡ selected_count s - first = ap length is ∙ length-drop first (places_of record_size x s) ∙ ap (λ (m : ℕ). m - first) (places_counted record_size x s) in (
      omega (arith, le, long, takes.0),
      takes.1 ∙ ap (drop n) is ∙ drop-drop n first (places_of record_size x s),
    )

pub no_part : (t : XType) (left : List ℕ) → (part_count (size_of t) left ≡ 0) ↔ (left ≡ [])
no_part t left = (
  λ none. nil_from_length left (omega (arith, none, room_some t)),
  λ none. let long : length left ≡ 0 = ap length none in omega (arith, long),
)

pub all_taken : (record_size : ℕ) (x : PlacedVar) (s : Slab) (first : ℕ) → first ≤ selected_count s → (drop first (places_of record_size x s) ≡ []) ↔ (first ≡ selected_count s)
all_taken record_size x s first le =
    let all = places_of record_size x s in
    let long = length-drop first all in
    let counted = places_counted record_size x s in (
      λ none. let empty : length (drop first all) ≡ 0 = ap length none in omega (arith, empty, long, counted, le),
      λ done. nil_from_length (drop first all) (omega (arith, long, counted, done)),
    )

-- ---- numbers of 64 bits

pub items_below : (bound : ℕ) (xs : List ℕ) → ((i : ℕ) → get_or xs i 0 < bound) → AllByRecursion (λ n. n < bound) xs
items_below bound [] h = tt
items_below bound (x ∷ xs) h = (h 0, items_below bound xs (λ i. h (suc i)))

pub count_below_file : (p : Placed) → KeepsRules p → (n : ℕ) (s : Slab) → slab_fault (vars_of p) n s ≡ None → selected_count s ≤ file_length_of p
count_below_file p keeps n s none =
    let x = var_at (vars_of p) n in
    let parts = if_none (ltb n (length (vars_of p))) (shape_fault x.shape s) NoVariable none in
    let there = ltb-true n (length (vars_of p)) parts.0 in
    omega (
      arith,
      selects_at_most_all x.shape s parts.1,
      shape_in_file p keeps n there,
      mul-le (product x.shape) 1 (product x.shape) (size_of x.xtype) (omega arith) (size_of-some x.xtype),
    )
