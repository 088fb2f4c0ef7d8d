-- Rows one after the other, by their number.
use Rattle.std.proofs.Common.{◌≡◌, ℕ, zero, suc, ◌+◌, ◌-◌, ◌<◌, ◌≤◌, List, [], ◌++◌, map, length, drop, get_or, refl, sym, ap, ◌∙◌, arith, append_assoc}
use Rattle.std.specs.Prelude.{Result, Ok, Err, OnOk, OnErr, is_ok, if◌then◌else◌}
use Rattle.std.specs.declared.alloc.AllocError.{AllocError}
use Rattle.std.proofs.lemmas.List.{append-nil, length-append, get_or-drop, drop-map}
use Rattle.ncc_slab.specs.Selection.{indices_of}
use Rattle.ncc_slab.specs.declared.slab.Slab.{Slab}
use Rattle.ncc_csv.specs.Rows.{row_line, element_row}
use Rattle.ncc_csv.specs.Runs.{slab_row, first_rows}

-- the first rows, and after them others
pub first_rows-add : (row : ℕ → List (List ℕ)) (a b : ℕ) → first_rows row (a + b) ≡ first_rows row a ++ first_rows (λ k. row (a + k)) b
first_rows-add row a zero =
    let e : a + zero ≡ a = omega arith in
    ap (λ (n : ℕ). first_rows row n) e ∙ sym (append-nil (first_rows row a))
first_rows-add row a (suc b) =
    let e : a + suc b ≡ suc (a + b) = omega arith in
    ap (λ (n : ℕ). first_rows row n) e ∙ ap (λ (t : List ℕ). t ++ row_line (row (a + b))) (first_rows-add row a b) ∙ append_assoc (first_rows row a) (first_rows (λ k. row (a + k)) b) (row_line (row (a + b)))

-- they have no more bytes than more rows
pub first_rows_grow : (row : ℕ → List (List ℕ)) (k n : ℕ) → k ≤ n → length (first_rows row k) ≤ length (first_rows row n)
first_rows_grow row k n le =
    let e : k + (n - k) ≡ n = omega (arith, le) in
    let rest = first_rows (λ i. row (k + i)) (n - k) in
    omega (arith, ap length (first_rows-add row k (n - k)), length-append (first_rows row k) rest, ap (λ (m : ℕ). length (first_rows row m)) e)

-- equal rows
pub first_rows_same : (f g : ℕ → List (List ℕ)) (n : ℕ) → ((k : ℕ) → k < n → f k ≡ g k) → first_rows f n ≡ first_rows g n
first_rows_same f g zero same = refl
first_rows_same f g (suc n) same =
    ap (λ (t : List ℕ). t ++ row_line (f n)) (first_rows_same f g n (λ k lt. same k (omega (arith, lt)))) ∙ ap (λ (r : List (List ℕ)). first_rows g n ++ row_line r) (same n (omega arith))

-- the first rows of the values from one of them on are rows of all values
pub rows_from : {A : Type 0} (text : A → List ℕ) (values : List A) (s : Slab) (first done n : ℕ)
    → first_rows (slab_row s first (map text values)) (done + n) ≡ first_rows (slab_row s first (map text values)) done ++ first_rows (slab_row s (first + done) (map text (drop done values))) n
rows_from text values s first done n =
    first_rows-add (slab_row s first (map text values)) done n
    ∙ ap (λ (t : List ℕ). first_rows (slab_row s first (map text values)) done ++ t)
    (first_rows_same (λ k. slab_row s first (map text values) (done + k)) (slab_row s (first + done) (map text (drop done values))) n
    (λ k lt.
    let e : first + (done + k) ≡ first + done + k = omega arith in
    ap (λ (i : ℕ). element_row (get_or (indices_of s) i []) (get_or (map text values) (done + k) [])) e
    ∙ ap (λ (t : List ℕ). element_row (get_or (indices_of s) (first + done + k) []) t) (sym (get_or-drop done (map text values) k []) ∙ ap (λ (l : List (List ℕ)). get_or l k []) (drop-map text done values))))

-- one row more after the others, on a page
pub one_row_more : (row : ℕ → List (List ℕ)) (old now new line : List ℕ) (k : ℕ) → now ≡ old ++ first_rows row k → new ≡ now ++ line → line ≡ row_line (row k)
    → new ≡ old ++ first_rows row (k + 1)
one_row_more row old now new line k so_far next is =
    let more : suc k ≡ k + 1 = omega arith in
    next ∙ ap (λ (t : List ℕ). t ++ line) so_far ∙ append_assoc old (first_rows row k) line
    ∙ ap (λ (t : List ℕ). old ++ (first_rows row k ++ t)) is ∙ ap (λ (n : ℕ). old ++ first_rows row n) more

-- a line at the end of a page, where there was memory for it
pub added_line : (result : Result (Unit {0}) AllocError) (old new more line : List ℕ) → new ≡ (if is_ok result then old ++ more else old) → more ≡ line
    → OnOk result (new ≡ old ++ line)
added_line (Ok x) old new more line e is = e ∙ ap (λ (t : List ℕ). old ++ t) is
added_line (Err x) old new more line e is = tt

-- a page that has no room for a line has none for all rows
pub full_before : (row : ℕ → List (List ℕ)) (room old now : ℕ) (line : List ℕ) (k n : ℕ) → k < n → room < now + length line → now ≡ old + length (first_rows row k) → line ≡ row_line (row k) → room < old + length (first_rows row n)
full_before row room old now line k n lt full is same =
    let more : suc k ≡ k + 1 = omega arith in
    let grows = first_rows_grow row (suc k) n (omega (arith, lt)) in
    omega (arith, full, is, grows, ap length same, length-append (first_rows row k) (row_line (row k)))

pub on_err : {T E : Type 0} (r : Result T E) (P : Type 0) → P → OnErr r P
on_err (Ok x) P p = tt
on_err (Err e) P p = p

pub on_err_weaker : {T E : Type 0} (r : Result T E) (P Q : Type 0) → (P → Q) → OnErr r P → OnErr r Q
on_err_weaker (Ok x) P Q f p = tt
on_err_weaker (Err e) P Q f p = f p
