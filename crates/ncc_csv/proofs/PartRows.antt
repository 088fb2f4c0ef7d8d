-- The rows of parts that are read one after the other.
use Rattle.std.proofs.Common.{◌≡◌, ℕ, ◌+◌, ◌-◌, ◌≤◌, List, [], ◌++◌, take, drop, Option, Result, Ok, Err, refl, sym, ap, subst, ◌∙◌, append_assoc, arith}
use Rattle.ncc_values.specs.declared.values.Values.{Values}
use Rattle.ncc_values.specs.declared.xtype.XType.{XType}
use Rattle.ncc_values.specs.XType.{size_of}
use Rattle.ncc_values.specs.Values.{type_of, count_of, no_values}
use Rattle.ncc_values.proofs.ValuesLemmas.{type_of-no_values, count_of-no_values}
use Rattle.ncc_schema.specs.Device.{Puts}
use Rattle.ncc_schema.proofs.Writing.{puts_both, puts_none}
use Rattle.ncc_layout.specs.declared.placed_var.PlacedVar.{PlacedVar}
use Rattle.std.specs.Prelude.{IsErr}
use Rattle.ncc_lines.specs.declared.send_error.SendError.{SendError}
use Rattle.ncc_lines.specs.Sends.{PutsFront}
use Rattle.ncc_slab.specs.Laws.{PartHasNumbers}
use Rattle.ncc_slab.specs.Selected.{places_of, AddsPlaces}
use Rattle.ncc_slab.specs.Selection.{indices_of, selected_count}
use Rattle.ncc_slab.specs.declared.slab.Slab.{Slab}
use Rattle.ncc_csv.specs.Csv.{rows_text}
use Rattle.ncc_csv.specs.Rows.{part_text}
use Rattle.ncc_csv.specs.Sheets.{part_rows, SendsNext}
use Rattle.ncc_lines.specs.declared.style.FloatStyle.{FloatStyle}
use Rattle.ncc_csv.proofs.Joining.{part_is_of_elements, rows_join, all_are_selected}

-- ---- the values of a part

-- so many were added to none
pub added_to_none : (file : List ℕ) (size : ℕ) (left : List ℕ) (t : XType) (n : ℕ) (old v : Values) → old ≡ no_values t → count_of v ≡ count_of old + n
    → AddsPlaces file size (take n left) old v → AddsPlaces file size (take (count_of v) left) (no_values t) v
added_to_none file size left t n old v none counted added =
    let all : n ≡ count_of v = omega (arith, counted, ap count_of none, count_of-no_values t) in
    subst (λ (k : ℕ). AddsPlaces file size (take k left) (no_values t) v) all (subst (λ (o : Values). AddsPlaces file size (take n left) o v) none added)

-- their rows are those of the elements
pub rows_of_part : (style : FloatStyle) → PartHasNumbers → (file : List ℕ) (record_size : ℕ) (x : PlacedVar) (s : Slab) (t : XType) (left : List ℕ) (first : ℕ) (v : Values) → t ≡ x.xtype → left ≡ drop first (places_of record_size x s)
    → first + count_of v ≤ selected_count s → type_of v ≡ t → AddsPlaces file (size_of t) (take (count_of v) left) (no_values t) v → part_text style s first v ≡ part_rows style file record_size x s first (count_of v)
rows_of_part style numbers file record_size x s t left first v of rest there typed added =
    let n = count_of v in
    let here : AddsPlaces file (size_of x.xtype) (take n (drop first (places_of record_size x s))) (no_values x.xtype) v =
    subst (λ (l : List ℕ). AddsPlaces file (size_of x.xtype) (take n l) (no_values x.xtype) v) rest
    (subst (λ (u : XType). AddsPlaces file (size_of u) (take n left) (no_values u) v) of added) in
    part_is_of_elements style file record_size x s first n v there (typed ∙ of)
    (numbers file record_size x s first n (no_values x.xtype) v (type_of-no_values x.xtype) (count_of-no_values x.xtype) here)

-- ---- fronts

-- nothing of a text is a front of it
pub puts_no_front : (old : Option (List ℕ)) (text : List ℕ) → PutsFront old old text
puts_no_front old text = ([], text, refl, puts_none old)

-- a front of a text is one of a text that goes on
pub front_of_more : (old new : Option (List ℕ)) (text a b : List ℕ) → text ≡ a ++ b → PutsFront old new a → PutsFront old new text
front_of_more old new text a b e w = (w.0, w.1 ++ b, e ∙ ap (λ (z : List ℕ). z ++ b) w.2 ∙ append_assoc w.0 w.1 b, w.3)

-- after a text that went out
pub front_behind : (old mid new : Option (List ℕ)) (text a b : List ℕ) → text ≡ a ++ b → Puts old mid a → PutsFront mid new b → PutsFront old new text
front_behind old mid new text a b e puts w = (a ++ w.0, w.1, e ∙ ap (λ (z : List ℕ). a ++ z) w.2 ∙ sym (append_assoc a w.0 w.1), puts_both old mid new a w.0 puts w.3)

-- ---- rows of parts

module _ (style : FloatStyle) (file : List ℕ) (record_size : ℕ) (x : PlacedVar) (s : Slab) where
  -- those of all that are left begin with those of the next
  pub rows_left : (first n left : ℕ) → n ≤ left → part_rows style file record_size x s first left ≡ part_rows style file record_size x s first n ++ part_rows style file record_size x s (first + n) (left - n)
  rows_left first n left le =
      let all : left ≡ n + (left - n) = omega arith in
      ap (part_rows style file record_size x s first) all ∙ rows_join style file record_size x s first n (left - n)

  -- those of the first, and after them those of the next
  pub rows_so_far : (done n : ℕ) → part_rows style file record_size x s 0 (done + n) ≡ part_rows style file record_size x s 0 done ++ part_rows style file record_size x s done n
  rows_so_far done n =
      let same : 0 + done ≡ done = omega arith in
      rows_join style file record_size x s 0 done n ∙ ap (λ (k : ℕ). part_rows style file record_size x s 0 done ++ part_rows style file record_size x s k n) same

  -- and so all of them
  pub rows_in_all : (done left : ℕ) → done + left ≡ selected_count s → rows_text style file record_size x (indices_of s) ≡ part_rows style file record_size x s 0 done ++ part_rows style file record_size x s done left
  rows_in_all done left all =
      ap (rows_text style file record_size x) (sym (all_are_selected s))
      ∙ ap (part_rows style file record_size x s 0) (sym all) ∙ rows_so_far done left

-- nothing went out
pub no_front : (put : Option (List ℕ)) (text : List ℕ) → PutsFront put put text
no_front put text = ([], text, refl, puts_none put)

pub fails_next : (rows : ℕ → List ℕ) (left : ℕ) (old new : Option (List ℕ)) (result : Result ℕ SendError) → IsErr result → PutsFront old new (rows left) → SendsNext rows left old new result
fails_next rows left old new (Ok n) failed front = absurd (cc)
fails_next rows left old new (Err e) failed front = front
