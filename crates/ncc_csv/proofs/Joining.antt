-- Rows of elements, part by part.
use Rattle.std.proofs.Common.{◌≡◌, ℕ, ◌+◌, ◌≤◌, ℤ, List, [], ◌∷◌, ◌++◌, map, length, take, drop, refl, sym, ap, ◌∙◌, arith}
use Rattle.std.specs.List.{flat_map}
use Rattle.std.proofs.lemmas.Grind.{flat_map-append}
use Rattle.std.proofs.lemmas.List.{map-append, length-map, length-drop, length-take-le, take_all, drop-drop}
use Rattle.std.proofs.Math.Seq.{take-add}
use Rattle.ncc_layout.specs.declared.placed_var.PlacedVar.{PlacedVar}
use Rattle.ncc_values.specs.Values.{type_of, count_of}
use Rattle.ncc_values.specs.declared.values.Values.{Values}
use Rattle.ncc_values.specs.declared.xtype.XType.{XType}
use Rattle.ncc_slab.specs.Selected.{number_at, numbers_of, part_of}
use Rattle.ncc_slab.specs.Selection.{indices_of, selected_count}
use Rattle.ncc_slab.specs.declared.slab.Slab.{Slab}
use Rattle.ncc_lines.specs.declared.style.FloatStyle.{FloatStyle}
use Rattle.ncc_csv.specs.Csv.{rows_text}
use Rattle.ncc_csv.specs.Rows.{row_line, value_row, value_rows, part_text}
use Rattle.ncc_csv.proofs.PartTexts.{length-numbers_of}

rows_by : (style : FloatStyle) (t : XType) (f : List ℕ → ℤ) (indices : List (List ℕ)) → value_rows style t indices (map f indices) ≡ map (λ i. value_row style t i (f i)) indices
rows_by style t f [] = refl
rows_by style t f (i ∷ indices) = ap (λ (l : List (List (List ℕ))). value_row style t i (f i) ∷ l) (rows_by style t f indices)

pub part_is_of_elements : (style : FloatStyle) (file : List ℕ) (record_size : ℕ) (x : PlacedVar) (s : Slab) (first n : ℕ) (values : Values) → first + n ≤ selected_count s → type_of values ≡ x.xtype
    → numbers_of values ≡ map (number_at file record_size x) (part_of s first n) → part_text style s first values ≡ rows_text style file record_size x (part_of s first n)
part_is_of_elements style file record_size x s first n values there typed numbers =
    let indices = part_of s first n in
    let long : length indices ≡ n = length-take-le n (drop first (indices_of s)) (omega (arith, there, length-drop first (indices_of s))) in
    let count : count_of values ≡ n =
    sym (length-numbers_of values) ∙ ap (λ (l : List ℤ). length l) numbers ∙ length-map indices (number_at file record_size x) ∙ long in
    ap (λ (k : ℕ). flat_map row_line (value_rows style (type_of values) (part_of s first k) (numbers_of values))) count
    ∙ ap (λ (t : XType). flat_map row_line (value_rows style t indices (numbers_of values))) typed
    ∙ ap (λ (l : List ℤ). flat_map row_line (value_rows style x.xtype indices l)) numbers
    ∙ ap (λ (l : List (List (List ℕ))). flat_map row_line l) (rows_by style x.xtype (number_at file record_size x) indices)

pub rows_join : (style : FloatStyle) (file : List ℕ) (record_size : ℕ) (x : PlacedVar) (s : Slab) (first m n : ℕ)
    → rows_text style file record_size x (part_of s first (m + n)) ≡ rows_text style file record_size x (part_of s first m) ++ rows_text style file record_size x (part_of s (first + m) n)
rows_join style file record_size x s first m n =
    let row = λ (i : List ℕ). value_row style x.xtype i (number_at file record_size x i) in
    let indices = drop first (indices_of s) in
    ap (λ (l : List (List ℕ)). flat_map row_line (map row l)) (take-add m n indices)
    ∙ ap (λ (l : List (List (List ℕ))). flat_map row_line l) (map-append row (take m indices) (take n (drop m indices)))
    ∙ flat_map-append row_line (map row (take m indices)) (map row (take n (drop m indices)))
    ∙ ap (λ (l : List (List ℕ)). flat_map row_line (map row (take m indices)) ++ flat_map row_line (map row (take n l))) (drop-drop m first (indices_of s))

pub all_are_selected : (s : Slab) → part_of s 0 (selected_count s) ≡ indices_of s
all_are_selected s = take_all (selected_count s) (indices_of s) (omega arith)
