-- The text of a part of a selection, row by row.
use Rattle.std.proofs.Common.{◌≡◌, ℕ, suc, ◌+◌, ◌≤◌, ℤ, List, [], ◌∷◌, ◌++◌, map, length, get_or, take, drop, Option, Result, Ok, Err, refl, sym, ap, subst, ◌∙◌, arith, append_assoc}
use Rattle.std.specs.Prelude.{pos, IsErr}
use Rattle.std.specs.List.{flat_map}
use Rattle.std.proofs.lemmas.List.{length-map, length-drop, length-take-le, get_or-take, get_or-drop, take-map}
use Rattle.ncc_schema.specs.Device.{Puts}
use Rattle.ncc_schema.proofs.Writing.{puts_both}
use Rattle.ncc_values.specs.Values.{type_of, count_of}
use Rattle.ncc_values.specs.declared.values.Values.{Values}
use Rattle.ncc_values.specs.declared.values.Values.TheVariants.{Bytes, Chars, Shorts, Ints, Floats, Doubles, UBytes, UShorts, UInts, Int64s, UInt64s}
use Rattle.ncc_values.specs.declared.xtype.XType.{XType}
use Rattle.ncc_lines.specs.Sends.{PutsFront, SendsAll}
use Rattle.ncc_lines.specs.declared.send_error.SendError.{SendError}
use Rattle.ncc_slab.specs.Selected.{part_of, numbers_of}
use Rattle.ncc_slab.specs.Selection.{indices_of, selected_count}
use Rattle.ncc_slab.specs.declared.slab.Slab.{Slab}
use Rattle.ncc_csv.specs.Rows.{row_line, element_row, value_row, value_rows, part_text}
use Rattle.ncc_csv.specs.Runs.{first_rows, slab_row}
use Rattle.ncc_csv.specs.Values.{number_text}
use Rattle.ncc_lines.specs.declared.style.FloatStyle.{FloatStyle}
use Rattle.ncc_csv.proofs.Runs.{first_rows-add, first_rows_same, rows_from}

-- ---- rows of lists

listed : FloatStyle → XType → List (List ℕ) → List ℤ → (k : ℕ) → List (List ℕ)
listed style t indices numbers k = element_row (get_or indices k []) (get_or (map (number_text style t) numbers) k [])

rows_of_lists : (style : FloatStyle) (t : XType) (indices : List (List ℕ)) (numbers : List ℤ) → length indices ≡ length numbers → flat_map row_line (value_rows style t indices numbers) ≡ first_rows (listed style t indices numbers) (length numbers)
unfolding listed
rows_of_lists style t [] [] e = refl
rows_of_lists style t [] (z ∷ numbers) e = absurd (omega (arith, e))
rows_of_lists style t (i ∷ indices) [] e = absurd (omega (arith, e))
rows_of_lists style t (i ∷ indices) (z ∷ numbers) e =
    let row = listed style t (i ∷ indices) (z ∷ numbers) in
    let one : suc (length numbers) ≡ 1 + length numbers = omega arith in
    ap (λ (l : List ℕ). row_line (value_row style t i z) ++ l) (rows_of_lists style t indices numbers (omega (arith, e)))
    ∙ ap (λ (l : List ℕ). row_line (value_row style t i z) ++ l) (first_rows_same (listed style t indices numbers) (λ k. row (1 + k)) (length numbers)
    (λ k lt.
    let next : suc k ≡ 1 + k = omega arith in
    ap (λ (n : ℕ). listed style t (i ∷ indices) (z ∷ numbers) n) next))
    ∙ sym (first_rows-add row 1 (length numbers))
    ∙ ap (λ (n : ℕ). first_rows row n) (sym one)

pub length-numbers_of : (v : Values) → length (numbers_of v) ≡ count_of v
length-numbers_of (Bytes items) = refl
length-numbers_of (Chars items) = length-map items (λ x. pos x.0)
length-numbers_of (Shorts items) = refl
length-numbers_of (Ints items) = refl
length-numbers_of (Floats items) = length-map items (λ x. pos x.0)
length-numbers_of (Doubles items) = length-map items (λ x. pos x.0)
length-numbers_of (UBytes items) = length-map items (λ x. pos x)
length-numbers_of (UShorts items) = length-map items (λ x. pos x)
length-numbers_of (UInts items) = length-map items (λ x. pos x)
length-numbers_of (Int64s items) = refl
length-numbers_of (UInt64s items) = length-map items (λ x. pos x)

-- the rows of values, by the texts of these
rows_of_values : (style : FloatStyle) (s : Slab) (first : ℕ) (v : Values) → first + count_of v ≤ selected_count s
    → first_rows (slab_row s first (map (number_text style (type_of v)) (numbers_of v))) (count_of v) ≡ part_text style s first v
unfolding listed
rows_of_values style s first v there =
    let n = count_of v in
    let indices = indices_of s in
    let part = part_of s first n in
    let long : length part ≡ length (numbers_of v) =
    length-take-le n (drop first indices) (omega (arith, there, length-drop first indices)) ∙ sym (length-numbers_of v) in
    first_rows_same (slab_row s first (map (number_text style (type_of v)) (numbers_of v))) (listed style (type_of v) part (numbers_of v)) n
    (λ k lt.
    ap (λ (l : List ℕ). element_row l (get_or (map (number_text style (type_of v)) (numbers_of v)) k []))
    (sym (get_or-take n (drop first indices) k [] lt ∙ get_or-drop first indices k [])))
    ∙ ap (λ (k : ℕ). first_rows (listed style (type_of v) part (numbers_of v)) k) (sym (length-numbers_of v))
    ∙ sym (rows_of_lists style (type_of v) part (numbers_of v) long)

-- the rows of items of one type were sent as those of values
pub sends_items : {A : Type 0} (style : FloatStyle) (text : A → List ℕ) (make : List A → Values) → ((items : List A) → map text items ≡ map (number_text style (type_of (make items))) (numbers_of (make items)))
    → ((items : List A) → length items ≡ count_of (make items)) → (old new : Option (List ℕ)) (s : Slab) (first : ℕ) (v : Values) (items xs : List A) (result : Result (Unit {0}) SendError)
    → v ≡ make items → xs ≡ items → first + count_of v ≤ selected_count s → SendsAll old new (first_rows (slab_row s first (map text xs)) (length xs)) result
    → SendsAll old new (part_text style s first v) result
sends_items style text make shown counted old new s first v items xs result is same there sent =
    let w = make items in
    let inside : first + count_of w ≤ selected_count s = subst (λ (x : Values). first + count_of x ≤ selected_count s) is there in
    let rows : first_rows (slab_row s first (map text xs)) (length xs) ≡ part_text style s first v =
    ap (λ l. first_rows (slab_row s first (map text l)) (length l)) same
    ∙ ap (λ (k : ℕ). first_rows (slab_row s first (map text items)) k) (counted items)
    ∙ ap (λ (l : List (List ℕ)). first_rows (slab_row s first l) (count_of w)) (shown items)
    ∙ rows_of_values style s first w inside
    ∙ ap (λ (x : Values). part_text style s first x) (sym is) in
    subst (λ (t : List ℕ). SendsAll old new t result) rows sent

-- ---- block by block

-- a text goes out after another, and there is more of it; or it doesn't
pub sends_front : (old mid new : Option (List ℕ)) (text a b c : List ℕ) → text ≡ (a ++ b) ++ c → Puts old mid a → PutsFront mid new b → PutsFront old new text
sends_front old mid new text a b c e puts w = (
  a ++ w.0,
  w.1 ++ c,
  e ∙ ap (λ (z : List ℕ). (a ++ z) ++ c) w.2 ∙ ap (λ (z : List ℕ). z ++ c) (sym (append_assoc a w.0 w.1)) ∙ append_assoc (a ++ w.0) w.1 c,
  puts_both old mid new a w.0 puts w.3,
)

-- what a failed call says of its text
pub fails : (old new : Option (List ℕ)) (text : List ℕ) (result : Result (Unit {0}) SendError) → IsErr result → PutsFront old new text → SendsAll old new text result
fails old new text (Ok x) e front = absurd (cc)
fails old new text (Err h) e front = front

module _ {A : Type 0} (text : A → List ℕ) (values : List A) (s : Slab) (first done k : ℕ) (piece : List A) (is : piece ≡ take k (drop done values)) (short : k ≤ length (drop done values)) where
  -- the rows of a piece of the values, after those before it
  pub piece_rows : first_rows (slab_row s first (map text values)) (done + length piece)
      ≡ first_rows (slab_row s first (map text values)) done ++ first_rows (slab_row s (first + done) (map text piece)) (length piece)
  piece_rows =
      let long : length piece ≡ k = ap (λ l. length l) is ∙ length-take-le k (drop done values) short in
      rows_from text values s first done (length piece)
      ∙ ap (λ (t : List ℕ). first_rows (slab_row s first (map text values)) done ++ t)
      (first_rows_same (slab_row s (first + done) (map text (drop done values))) (slab_row s (first + done) (map text piece)) (length piece)
      (λ j lt.
      ap (λ (t : List ℕ). element_row (get_or (indices_of s) (first + done + j) []) t)
      (sym (ap (λ l. get_or (map text l) j []) is ∙ ap (λ (l : List (List ℕ)). get_or l j []) (sym (take-map text k (drop done values)))
      ∙ get_or-take k (map text (drop done values)) j [] (omega (arith, lt, long))))))

  -- and then those after it
  pub all_rows : (m : ℕ) → done + length piece + m ≡ length values → first_rows (slab_row s first (map text values)) (length values)
      ≡ (first_rows (slab_row s first (map text values)) done ++ first_rows (slab_row s (first + done) (map text piece)) (length piece))
      ++ first_rows (λ j. slab_row s first (map text values) (done + length piece + j)) m
  all_rows m e =
      ap (λ (n : ℕ). first_rows (slab_row s first (map text values)) n) (sym e)
      ∙ first_rows-add (slab_row s first (map text values)) (done + length piece) m
      ∙ ap (λ (t : List ℕ). t ++ first_rows (λ j. slab_row s first (map text values) (done + length piece + j)) m) piece_rows
